-- What the contracts of image, and of the crates above it, cite.
pub mod State
pub mod Fits

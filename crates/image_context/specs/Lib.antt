-- What the contracts of image_context, and of the crates above it, cite.
pub mod Context
pub mod Fits

-- What the contracts of image_kinds, and of the crates above it, cite.
pub mod Kinds

-- What the contracts of validation, and of the crates above it, cite.
pub mod Validate

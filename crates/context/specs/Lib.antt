-- What the contracts of context, and of the crates above it, cite.
pub mod Bytes
pub mod Context

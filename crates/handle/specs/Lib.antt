-- What the contracts of handle, and of the crates above it, cite.
pub mod Handle

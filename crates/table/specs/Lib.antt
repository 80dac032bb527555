-- What the contracts of table, and of the crates above it, cite.
pub mod Flags
pub mod State

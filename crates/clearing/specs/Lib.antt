-- What the contracts of clearing, and of the crates above it, cite.
pub mod Clearing

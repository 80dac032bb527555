-- What the contracts of links, and of the crates above it, cite.
pub mod Summary

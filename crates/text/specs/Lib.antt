-- What the contracts of text, and of the crates above it, cite.
pub mod Text

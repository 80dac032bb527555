-- What the contracts of wire, and of the crates above it, cite.
pub mod Le

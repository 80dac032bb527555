-- What the contract of lookup, and of the crates above it, cites.
pub mod Lookup

-- What the contract of candidates, and of the crates above it, cites.
pub mod Candidates

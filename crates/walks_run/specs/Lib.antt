-- What the contracts of walks_run, and of the crates above it, cite.
pub mod Run

-- What the contracts of walks_path, and of the crates above it, cite.
pub mod Path

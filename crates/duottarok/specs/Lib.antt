-- What the exported contracts cite.
pub mod Exports

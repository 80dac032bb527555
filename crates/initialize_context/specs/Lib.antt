-- What the contract of initialize_context cites.
pub mod Initialize

-- What the contract of rotate_context cites.
pub mod Rotate

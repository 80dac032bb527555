-- The proofs of the promises, in the order in which they stand on each other; `Promises` has them all for a table.
pub mod Rule
pub mod Steps
pub mod Descend
pub mod Clearing
pub mod Destroy
pub mod Rotate
pub mod Path
pub mod Normal
pub mod Growing
pub mod Initialize
pub mod Promises

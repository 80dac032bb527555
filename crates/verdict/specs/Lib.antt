-- The validator's tests, the forest rule, and where each refusal is given; what the contracts of the crates above cite.
pub mod Tests
pub mod Rule
pub mod Refusals

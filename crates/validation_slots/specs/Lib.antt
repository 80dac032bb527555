-- What the contracts of the tests of the slots cite, beside the verdict itself.
pub mod Summary

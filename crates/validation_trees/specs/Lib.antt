-- What the contracts of the tests of the forest cite, beside the verdict itself.
pub mod Summary

-- What the contracts of the tests of the localities cite, beside the verdict itself.
pub mod Summary

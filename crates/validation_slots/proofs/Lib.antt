-- Laws that belong to no one function: the marks of a slot, and the tests over a summary.
pub mod Children
pub mod Agree

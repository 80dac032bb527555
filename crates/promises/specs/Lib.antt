-- What is promised of every table that the validator says yes to.
pub mod Keeps

-- What the contracts of children cite.
pub mod Below
pub mod Marks

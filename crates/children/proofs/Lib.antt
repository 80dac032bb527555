-- Laws that belong to no one function; callers cite them.
pub mod Cases
pub mod Below
pub mod Marks

-- Laws that belong to no one function; callers cite them.
pub mod Up
pub mod Returns

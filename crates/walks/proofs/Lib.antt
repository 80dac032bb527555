-- Laws that belong to no one function; callers cite them.
pub mod Down
pub mod Rest
pub mod Returns

-- Laws that belong to no one function; callers cite them.
pub mod Fields
pub mod Owned
pub mod Writing

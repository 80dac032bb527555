-- Laws that belong to no one function; callers cite them.
pub mod Bytes
pub mod States

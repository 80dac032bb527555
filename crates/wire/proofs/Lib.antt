-- Laws that belong to no one function; callers cite them.
pub mod Part
pub mod Put
pub mod Le

-- Laws that belong to no one function; callers cite them.
pub mod Decimal
pub mod Row
pub mod Examples

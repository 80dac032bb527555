-- Laws that belong to no one function; callers cite them.
pub mod Owned
pub mod Reading
pub mod Writing
pub mod RoundTrip
pub mod InPlace

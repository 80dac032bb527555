-- What the contracts over a table by value or in place cite.
pub mod Ends
pub mod Image

-- Laws that belong to no one function: counting in a locality, and the places of a table.
pub mod Counts
pub mod Agree

-- Laws that belong to no one function: one for each way out of the search and of the last tests.
pub mod Searches
pub mod Agree

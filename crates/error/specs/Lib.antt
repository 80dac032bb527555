-- What the contracts of error cite.
pub mod Numbers

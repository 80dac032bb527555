-- The worked examples, as one table.
pub mod Examples

-- That no second result fits a contract.
pub mod Unique

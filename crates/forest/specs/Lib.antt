-- The links of a table, the walks and the search over them, and what a destroy clears.
pub mod Links
pub mod Walk
pub mod Run
pub mod Told
pub mod Destroy
pub mod Search

-- The laws of the links, in the order in which they stand on each other.
pub mod Pigeon
pub mod Words
pub mod Links
pub mod Fuel
pub mod Enough
pub mod EnoughUp
pub mod Told
pub mod Descend
pub mod Ascend
pub mod Destroy
pub mod Search
pub mod Forest
pub mod Slots

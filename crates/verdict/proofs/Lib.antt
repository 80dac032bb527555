-- The laws of the verdict, in the order in which they stand on each other; `Yes` and `Refusals` have what is promised of it.
pub mod Steps
pub mod Same
pub mod Slots
pub mod Localities
pub mod Trees
pub mod Yes
pub mod Parts
pub mod Refusals
pub mod Examples

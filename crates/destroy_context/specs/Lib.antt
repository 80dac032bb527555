-- What the contracts of destroy_context cite.
pub mod Destroy

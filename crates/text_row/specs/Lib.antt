-- What the contracts of text_row, and of the crates above it, cite.
pub mod Row

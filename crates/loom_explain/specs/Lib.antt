-- The definitions that the contracts of this crate cite.
pub mod Marks
pub mod Pictures
pub mod Rows

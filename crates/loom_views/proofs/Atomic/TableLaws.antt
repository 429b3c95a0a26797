pub mod Meeting
pub mod Racing
pub mod Rows
pub mod Offered
pub mod Marked
pub mod Global

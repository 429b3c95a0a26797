pub mod Bodies
pub mod Measured
pub mod Rows
pub mod Scripts

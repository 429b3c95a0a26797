pub mod Counting
pub mod Settling
pub mod Turning

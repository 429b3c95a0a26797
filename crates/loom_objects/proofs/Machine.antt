pub mod Replying
pub mod Stepping

pub mod Guide
pub mod Spin
pub mod Updates

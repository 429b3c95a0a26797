pub mod Code
pub mod Operations
pub mod Running
pub mod Script
pub mod Slots
pub mod Switching
pub mod Written

pub mod Accessing
pub mod Claiming
pub mod Rousing
pub mod Slots
pub mod Taking

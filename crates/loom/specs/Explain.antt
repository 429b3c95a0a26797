pub mod Explains
pub mod Places
pub mod Story

pub mod Explaining
pub mod Keeping
pub mod Placing
pub mod Story
pub mod Turning

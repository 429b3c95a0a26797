pub mod Coding
pub mod Going
pub mod Reading
pub mod Switching

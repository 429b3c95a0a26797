pub mod Asked
pub mod Question
pub mod Sound
pub mod Stores
pub mod Tree

pub mod Accessed
pub mod Labelled
pub mod Relabelled
pub mod Plain
pub mod Bare
pub mod Switching

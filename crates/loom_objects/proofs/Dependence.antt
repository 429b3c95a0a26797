pub mod Asked
pub mod Counts
pub mod Grown
pub mod Lists
pub mod Steps
pub mod Told

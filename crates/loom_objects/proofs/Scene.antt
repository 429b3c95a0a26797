pub mod Finding
pub mod Keyed
pub mod Lists
pub mod Offering
pub mod Showing

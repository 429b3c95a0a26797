pub mod Defaults
pub mod Offers

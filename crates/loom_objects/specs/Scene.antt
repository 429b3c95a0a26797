pub mod Lends
pub mod Lookup
pub mod Shown
pub mod Stage

pub mod Checking
pub mod Covering
pub mod Naming

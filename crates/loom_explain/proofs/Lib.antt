pub mod Standing
pub mod Telling

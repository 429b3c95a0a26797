pub mod Cutting
pub mod Leaking

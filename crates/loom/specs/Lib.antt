pub mod Explain
pub mod Model
pub mod Runner

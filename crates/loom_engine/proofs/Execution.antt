pub mod Beginning
pub mod Drawing
pub mod Executing
pub mod Growing

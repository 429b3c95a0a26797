pub mod Accepted
pub mod Grammar
pub mod Reader
pub mod Shape

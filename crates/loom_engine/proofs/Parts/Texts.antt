-- The values and the texts of parts.
pub mod Choices
pub mod Shapes
pub mod Items
pub mod Listed
pub mod Plain
pub mod Held

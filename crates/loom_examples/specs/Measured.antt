pub mod Body
pub mod Table

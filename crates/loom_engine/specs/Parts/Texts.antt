-- The JSON values and the texts of parts.
pub mod Accepted
pub mod Grammar
pub mod Reader

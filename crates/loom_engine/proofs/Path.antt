pub mod Alike
pub mod Drawing
pub mod Fitting
pub mod Marking
pub mod Nodes
pub mod Sameness
pub mod WellFormed
pub mod Words

pub mod Marking
pub mod Nodes
pub mod Notes
pub mod Tallies
pub mod Found

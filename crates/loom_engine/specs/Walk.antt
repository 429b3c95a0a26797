-- A depth-first walk over the runs of a machine.
pub mod Choices
pub mod Machine
pub mod Runs
pub mod Lists
pub mod Sound
pub mod Path
pub mod Walks
pub mod UnderWay
pub mod Driven
pub mod Bound
pub mod Example

-- Proofs of the walk's laws.
pub mod Lists
pub mod Defaults
pub mod Statuses
pub mod After
pub mod Marked
pub mod Resting
pub mod Stepping
pub mod Left
pub mod Round
pub mod Together
pub mod EveryRun
pub mod Ends
pub mod Order
pub mod UnderWay
pub mod Example
pub mod Driven
pub mod Bound

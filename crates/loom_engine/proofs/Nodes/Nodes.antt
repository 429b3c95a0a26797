-- Proofs about nodes: as they are, and as they go on.
pub mod Picks
pub mod Statuses
pub mod Choosing
pub mod Turns
pub mod Slots
pub mod Fronts

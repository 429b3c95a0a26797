-- Proofs about the nodes that a path makes, and about the path.
pub mod Making
pub mod Given
pub mod Drawing
pub mod First
pub mod Below
pub mod Paths

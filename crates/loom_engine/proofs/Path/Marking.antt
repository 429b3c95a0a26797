-- Proofs about the marks that a schedule makes at nodes before it.
pub mod Adding
pub mod Marked
pub mod Noted
pub mod Added
pub mod Threads
pub mod Schedules

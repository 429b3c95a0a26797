-- Proofs about the schedules below a place, and the nearest that explores.
pub mod Places
pub mod Nearest

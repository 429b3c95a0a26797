pub mod Atomic
pub mod Ranks
pub mod Sight
pub mod Views
pub mod Packed
pub mod Places

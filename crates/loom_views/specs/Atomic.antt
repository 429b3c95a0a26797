pub mod Fences
pub mod History
pub mod Readers
pub mod Ring
pub mod Shown
pub mod Slots
pub mod Touches

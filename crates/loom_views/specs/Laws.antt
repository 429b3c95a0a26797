pub mod Ends
pub mod Examples
pub mod Kept
pub mod Moves
pub mod Orders
pub mod Reaching
pub mod Sight
pub mod Views

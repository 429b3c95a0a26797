pub mod Raising
pub mod Beginning
pub mod Missing
pub mod Adding
pub mod Moving
pub mod Order
pub mod Ends

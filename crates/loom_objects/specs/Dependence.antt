pub mod Depends
pub mod Laws
pub mod Order
pub mod Shown

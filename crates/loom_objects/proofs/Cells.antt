pub mod Changing
pub mod Going
pub mod Opening

-- A search that is cut into parts.
pub mod Cuts
pub mod Floors
pub mod Works
pub mod Slices
pub mod Openings
pub mod Keeping
pub mod Texts

-- The scripts of the program's rows.
pub mod First
pub mod Atomics
pub mod Cells
pub mod Locks
pub mod Channels
pub mod Wakers
pub mod Values
pub mod Exploring
pub mod Limits
pub mod Measured
pub mod Walks

pub mod CellSwap
pub mod ChosenCopy
pub mod LocalCopy
pub mod LockCopy
pub mod Memory
pub mod Mpsc
pub mod Reader
pub mod Waker

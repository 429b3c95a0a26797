pub mod Closures
pub mod ExplainLemmas
pub mod History
pub mod ModelLemmas
pub mod RunnerLemmas
pub mod Same
pub mod Saving
pub mod Turns

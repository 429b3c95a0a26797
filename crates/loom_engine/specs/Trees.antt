-- Trees of runs, and paths that drive through them.
pub mod Outcomes
pub mod Meeting
pub mod Marks
pub mod Replay
pub mod Sound
pub mod Exploring
pub mod Machines
pub mod Comparing
pub mod Drive
pub mod Check
pub mod Replays
pub mod Reported
pub mod Reports
pub mod Resuming
pub mod Example
pub mod Foreign
pub mod Retracing

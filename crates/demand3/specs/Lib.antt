pub mod Instructions
pub mod Runs
pub mod Demand3
pub mod Refuted

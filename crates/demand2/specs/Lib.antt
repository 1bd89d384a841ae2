pub mod Paths
pub mod Demand2
pub mod Refuted

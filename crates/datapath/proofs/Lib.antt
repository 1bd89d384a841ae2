pub mod Decided
pub mod Cycles
pub mod One

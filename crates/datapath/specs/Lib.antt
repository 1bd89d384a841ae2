pub mod Machines
pub mod Cycle
pub mod Effects
pub mod Ticking

pub mod Cycles
pub mod Turns
pub mod Ways
pub mod Follow
pub mod Fates
pub mod Runs
pub mod Meets
pub mod Shut

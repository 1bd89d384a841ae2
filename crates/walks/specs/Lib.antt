pub mod Walk
pub mod Checking
pub mod Following
pub mod Admission

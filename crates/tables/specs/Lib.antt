pub mod Outputs
pub mod Pla
pub mod Rom

pub mod Registers
pub mod Alu
pub mod Image
pub mod Loading
pub mod Ready

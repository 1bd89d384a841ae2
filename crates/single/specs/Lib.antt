pub mod Visible
pub mod Effects
pub mod Instruction
pub mod Running

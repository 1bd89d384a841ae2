pub mod Mnemonics
pub mod Controls

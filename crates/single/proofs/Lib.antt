pub mod One
pub mod Alone
pub mod Instructions

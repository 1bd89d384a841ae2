pub mod Answers
pub mod One
pub mod Running
pub mod Going
pub mod Tables
pub mod Digits
pub mod Rest

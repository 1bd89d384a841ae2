pub mod Answers
pub mod Counts
pub mod Refusals
pub mod Averages
pub mod Running
pub mod Going
pub mod Tables
pub mod Texts

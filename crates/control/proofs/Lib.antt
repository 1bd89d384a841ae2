pub mod Agreeing
pub mod Starting
pub mod One

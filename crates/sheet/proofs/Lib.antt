pub mod Places
pub mod Onward

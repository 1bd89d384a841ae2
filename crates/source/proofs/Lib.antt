pub mod Unnamed
pub mod Places

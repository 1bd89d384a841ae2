pub mod Units
pub mod Sources
pub mod Running

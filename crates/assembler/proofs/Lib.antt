pub mod Chains
pub mod Tabling
pub mod Walked
pub mod Lined
pub mod Surveying
pub mod Looking
pub mod Translated
pub mod Finished

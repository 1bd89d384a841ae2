pub mod Labels
pub mod Assembling
pub mod Chains
pub mod Table
pub mod Translating

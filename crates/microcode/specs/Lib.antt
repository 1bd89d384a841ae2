pub mod Stores
pub mod Sequencing
pub mod Fixed
pub mod TruthTable

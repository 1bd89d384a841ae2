pub mod Images
pub mod One

pub mod Lines
pub mod Sheets

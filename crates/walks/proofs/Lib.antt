pub mod Stepping
pub mod Padding
pub mod First
pub mod Ordered
pub mod Admitted
pub mod One
pub mod Meeting

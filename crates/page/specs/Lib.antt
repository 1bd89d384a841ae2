pub mod Pages
pub mod Numbers
pub mod Lent

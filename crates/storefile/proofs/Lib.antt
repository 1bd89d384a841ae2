pub mod Words
pub mod Files
pub mod One
pub mod RoundTrip

pub mod File
pub mod RoundTrip

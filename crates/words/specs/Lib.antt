pub mod Fields
pub mod Targets
pub mod Kinds
pub mod Decoding
pub mod Encoding
pub mod RoundTrip

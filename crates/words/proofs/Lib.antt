mod Within
pub mod One
pub mod RoundTrip

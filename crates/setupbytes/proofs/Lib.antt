pub mod Stores
pub mod RoundTrip
pub mod Exact

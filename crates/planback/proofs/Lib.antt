pub mod Ranges
pub mod Again
pub mod Exact

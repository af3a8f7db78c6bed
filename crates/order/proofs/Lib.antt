pub mod Orders
pub mod Exact
pub mod Skips

pub mod Settles
pub mod Operations
pub mod Exact

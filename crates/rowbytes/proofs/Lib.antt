pub mod Rows
pub mod Turns
pub mod Operations
pub mod Exact

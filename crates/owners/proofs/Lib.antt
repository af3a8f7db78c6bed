pub mod Owners
pub mod Exact

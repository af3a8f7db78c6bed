pub mod Digits
pub mod Vectors
pub mod Exact

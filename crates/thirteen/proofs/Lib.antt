pub mod Computed
pub mod Example

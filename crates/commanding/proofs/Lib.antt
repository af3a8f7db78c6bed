pub mod Turns
pub mod Numbered
pub mod Exact

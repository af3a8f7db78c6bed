pub mod Told
pub mod Exact

pub mod Puts
pub mod Files
pub mod Exact

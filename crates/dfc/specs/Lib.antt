pub mod Said
pub mod Files
pub mod Routes
pub mod Calls

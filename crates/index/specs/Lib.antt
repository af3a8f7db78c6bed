pub mod Index
pub mod Said
pub mod Steps

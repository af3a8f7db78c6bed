pub mod Records
pub mod Steps
pub mod Numbers
pub mod Parts

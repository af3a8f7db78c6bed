pub mod Parts
pub mod Rules
pub mod Sound
pub mod Find
pub mod Table
pub mod Steps

pub mod Numbers
pub mod Format

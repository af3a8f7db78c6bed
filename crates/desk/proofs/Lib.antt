pub mod Cut
pub mod Digits

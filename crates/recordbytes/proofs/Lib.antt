pub mod Places
pub mod Steps
pub mod AsStep
pub mod Exact
pub mod Numbers
pub mod Acts

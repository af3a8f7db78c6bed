pub mod Words
pub mod Access
pub mod Operations
pub mod Agree
pub mod Seen

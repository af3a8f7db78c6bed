pub mod Channels
pub mod Layout
pub mod Tables

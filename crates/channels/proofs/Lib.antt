pub mod Exact
pub mod Table
pub mod Lines

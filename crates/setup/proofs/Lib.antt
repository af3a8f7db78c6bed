pub mod Stored
pub mod EndParts
pub mod Faults
pub mod Exact
pub mod Tails

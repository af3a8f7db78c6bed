pub mod Dialling
pub mod FaultNumber
pub mod Setups

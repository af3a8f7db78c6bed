pub mod Changes
pub mod Zones
pub mod Exact

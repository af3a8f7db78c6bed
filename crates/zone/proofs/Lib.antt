pub mod Rows
pub mod Zones
pub mod Precedence
pub mod Members
pub mod Held
pub mod AnySet
pub mod PlanZones
pub mod Exact

pub mod Order
pub mod Loops
pub mod Memory
pub mod Laws
pub mod Members
pub mod History
pub mod Exact

pub mod Hops
pub mod Listing
pub mod Trips
pub mod Desk

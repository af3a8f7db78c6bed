pub mod Walks
pub mod Accepted
pub mod Texts
pub mod Trips
pub mod Desks
pub mod Exact

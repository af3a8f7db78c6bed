pub mod Stores
pub mod Tens
pub mod Exact

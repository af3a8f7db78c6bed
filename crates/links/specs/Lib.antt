pub mod Links
pub mod Sets
pub mod Said
pub mod History
pub mod Steps

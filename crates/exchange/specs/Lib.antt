pub mod Lent
pub mod Said

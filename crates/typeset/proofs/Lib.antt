pub mod Bools
pub mod Below
pub mod Laws
pub mod Taken
pub mod Exact
pub mod Listed
pub mod InTurn
pub mod NextSet

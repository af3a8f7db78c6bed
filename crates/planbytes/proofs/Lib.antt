pub mod Numbers
pub mod Lengths
pub mod Rounds

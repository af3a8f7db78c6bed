pub mod Shown
pub mod Outcomes
pub mod WellFormed
pub mod Exact
pub mod Manual
pub mod Numbered
pub mod Answers

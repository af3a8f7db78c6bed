pub mod Parts
pub mod Zoned
pub mod Shown
pub mod Chosen
pub mod Boxes
pub mod Properties
pub mod Exact
pub mod Numbered

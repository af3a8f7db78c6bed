pub mod Typed
pub mod Beginning

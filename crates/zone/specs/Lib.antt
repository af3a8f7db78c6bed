pub mod Order
pub mod Answer

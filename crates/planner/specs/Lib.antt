pub mod Promise
pub mod Answer
pub mod Inner

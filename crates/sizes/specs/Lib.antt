pub mod Sizes
pub mod Inner

pub mod Quantifiers
pub mod Inner

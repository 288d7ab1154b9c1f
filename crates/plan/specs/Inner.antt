pub mod Tried
pub mod Front

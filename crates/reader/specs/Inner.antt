pub mod Decoding
pub mod Front
pub mod Reading

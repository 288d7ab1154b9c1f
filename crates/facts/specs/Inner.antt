pub mod Numbered
pub mod Places

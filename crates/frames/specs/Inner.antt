pub mod Fits
pub mod Judged

pub mod ByValue
pub mod Call

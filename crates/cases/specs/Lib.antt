pub mod Text
pub mod Claims
pub mod Table
pub mod Refusals

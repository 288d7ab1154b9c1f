pub mod Walk
pub mod Lent
pub mod Fields
pub mod Asked
pub mod Again
pub mod Last
pub mod Shared

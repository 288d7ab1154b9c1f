pub mod Tracked
pub mod Goal
pub mod Depot
pub mod Leveled
pub mod Growing

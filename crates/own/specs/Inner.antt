pub mod Entered
pub mod Wanted
pub mod Requests
pub mod Own
pub mod Found

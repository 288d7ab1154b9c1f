pub mod PageReading
pub mod Search
pub mod Tests
pub mod Cases
pub mod RefusalTests
pub mod Refusals

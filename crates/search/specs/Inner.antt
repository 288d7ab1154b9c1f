pub mod Drive
pub mod Scan
pub mod Given

pub mod Tables
pub mod Cursors

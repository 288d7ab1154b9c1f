pub mod ExtendedLaws
pub mod ShownLaws
pub mod HigherLaws

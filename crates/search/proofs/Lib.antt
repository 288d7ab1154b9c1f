pub mod Tables
pub mod TermBridge
pub mod WithinLaws
pub mod SubjectLaws
pub mod DriveLaws
pub mod PersonLaws
pub mod StepLaws
pub mod PartLaws

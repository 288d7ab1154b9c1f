pub mod PrintedLaws
pub mod FactLaws

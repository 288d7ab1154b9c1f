-- The laws of all persons' levels at once.
pub mod FiringLaws
pub mod BeginLaws
pub mod EndLaws

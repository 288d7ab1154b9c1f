pub mod FlagLaws
pub mod BadLaws

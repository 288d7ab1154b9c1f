-- The laws of facts put in for some persons.
pub mod SpreadLaws

pub mod BuildLaws

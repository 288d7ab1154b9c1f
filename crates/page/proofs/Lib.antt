pub mod PageLaws
pub mod PersonLaws
pub mod RowLaws
pub mod PageOne

pub mod BoolLaws
pub mod ListLaws
pub mod BelowLaws
pub mod FirstLaws
pub mod PositionLaws
pub mod RangeLaws
pub mod FilledLaws

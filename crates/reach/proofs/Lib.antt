pub mod TrackLaws
pub mod DepotLaws
pub mod Chained
pub mod ChainLaws
pub mod GoalLaws

-- The definitions of this crate.
-- What has to be believed: what public contracts and the theorem cite.
pub mod LinkTargets
pub mod TargetView

-- The definitions of this crate.
-- What has to be believed: what public contracts and the theorem cite.
pub mod GfmTaskListItemCheck
pub mod DomainOutlook
pub mod GfmAutolinkLiteral
-- What serves proofs: what functions and proofs promise each other.
pub mod Trails
pub mod DomainScans

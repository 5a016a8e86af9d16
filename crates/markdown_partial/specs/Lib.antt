-- The definitions of this crate.
-- What has to be believed: what public contracts and the theorem cite.
pub mod PartialData
pub mod PartialSpaceOrTab
pub mod PartialSpaceOrTabEol
-- What serves proofs: what functions and proofs promise each other.
pub mod LinkedText
pub mod LinkedTreeOps
pub mod PartialDestination
pub mod PartialTitle
pub mod PartialLabel

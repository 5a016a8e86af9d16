-- The definitions of this crate.
-- What has to be believed: what public contracts and the theorem cite.
pub mod Nodes
pub mod ForestNodes
pub mod Numbers
pub mod Referred
pub mod LabelsView
-- What serves proofs: what functions and proofs promise each other.
pub mod TreeIndex

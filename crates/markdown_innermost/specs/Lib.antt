-- The definitions of this crate.
-- What has to be believed: what public contracts and the theorem cite.
pub mod InnermostEvents
pub mod LeafLaws
pub mod LeafView
-- What serves proofs: what functions and proofs promise each other.
pub mod OneLineLeaves

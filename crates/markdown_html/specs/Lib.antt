-- The definitions of this crate.
-- What has to be believed: what public contracts and the theorem cite.
pub mod DefinitionView
pub mod View
pub mod EventWalk
pub mod Brought
-- What serves proofs: what functions and proofs promise each other.
pub mod FirstDefinitions
pub mod KnownFootnotes
pub mod BroughtWalk
pub mod BroughtAtMost

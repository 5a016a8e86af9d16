-- The definitions of this crate.
-- What has to be believed: what public contracts and the theorem cite.
pub mod Identifier
pub mod IdentifierLaws
pub mod Neighbours
pub mod Reference
-- What serves proofs: what functions and proofs promise each other.
pub mod TableParts
pub mod TableText
pub mod ReferenceParts

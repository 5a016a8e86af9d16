-- The definitions of this crate.
-- What has to be believed: what public contracts and the theorem cite.
pub mod RunIndex
pub mod SequenceIndex
pub mod TitleIndex
pub mod BracketIndex
pub mod NameIndex
-- What serves proofs: what functions and proofs promise each other.
pub mod KeptNames

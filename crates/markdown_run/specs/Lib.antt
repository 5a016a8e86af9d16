-- The definitions of this crate.
-- What has to be believed: what public contracts and the theorem cite.
pub mod Layer
pub mod RunConstruct
pub mod RunWithPasses
pub mod ElementsOfText
pub mod StepMoves
-- What serves proofs: what functions and proofs promise each other.
pub mod Families

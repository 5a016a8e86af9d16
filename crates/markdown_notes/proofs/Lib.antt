-- The proofs of this crate.
pub mod RunIndexLemmas
pub mod RunIndexFacts
mod RunIndexOrder
pub mod SequenceIndexLemmas
mod SequenceBytes
pub mod TitleIndexLemmas
pub mod NameOrder
pub mod BracketIndexLemmas
pub mod NameSort

-- The proofs of this crate.
mod IndexLemmas
mod ForestNodesLemmas
mod NumberLemmas
mod TextLemmas
mod WalkLemmas

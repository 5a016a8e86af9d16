-- The proofs of this crate.
pub mod AndParts
pub mod ReverseSet
pub mod PastedParts

-- The proofs of this crate.
mod StringParts

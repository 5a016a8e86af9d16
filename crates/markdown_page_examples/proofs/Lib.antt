-- The proofs of this crate.
mod PageComputed

-- The proofs of this crate.
pub mod Computed
mod HtmlComputed

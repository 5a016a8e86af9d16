-- The proofs of this crate.
pub mod DefiningWords
pub mod WholeDocument
-- The proofs of printed lines.
pub mod NamesInOrder
pub mod PaddedWords
pub mod PrintedNumbers

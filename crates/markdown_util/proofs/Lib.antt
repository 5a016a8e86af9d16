-- The proofs of this crate.
pub mod AsciiClasses
pub mod AsciiFold
pub mod JoinedWords
pub mod LastChar
pub mod WordsAcrossSpaces
pub mod ReplacedNul
pub mod SortedTable
pub mod TableTextCuts
pub mod HalvedText
pub mod ReferenceTables
pub mod ValueBytes
pub mod StripPrefix
pub mod NumberValues
pub mod ParseLemmas
pub mod UpToSemicolon
pub mod WholeReference

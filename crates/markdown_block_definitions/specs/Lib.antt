-- The definitions of this crate.
pub mod DefinitionParts
pub mod DefinitionTexts
pub mod ResolvedRows
pub mod RowPieces
pub mod TextCopies
pub mod TextReadings

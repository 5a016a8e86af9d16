-- The definitions of this crate.
-- What has to be believed: what the public contracts cite.
pub mod DocumentBrought
-- What serves proofs: what functions and proofs promise each other.
pub mod BroughtSoFar
pub mod DefinitionStrings
pub mod BlankPieces
pub mod CodeLines
pub mod GivenPage
pub mod LinesByCode
pub mod ListPlaces
pub mod ListWalks
pub mod PlacedTree
pub mod WriterStates

-- The definitions of this crate.
pub mod BlockRows
pub mod CodePieces
pub mod ItemRows
pub mod LineRest
pub mod LinesLeft
pub mod MatterRows
pub mod NestedRows
pub mod PathItems
pub mod TextRows
pub mod TextTrims
pub mod TreeDepth

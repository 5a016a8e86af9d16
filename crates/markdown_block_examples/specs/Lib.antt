-- The rows of this crate, and their words.
pub mod BlockNotation
pub mod StandardBlocks
pub mod ChosenBlocks
pub mod ExtendedBlocks
pub mod BlocksOnLines

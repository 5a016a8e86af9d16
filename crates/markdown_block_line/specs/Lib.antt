-- The definitions of this crate.
pub mod DocumentLines
pub mod LineStarts
pub mod LineTags
pub mod LineValues
pub mod LineWords
pub mod LineBlocks
pub mod LineBreaks

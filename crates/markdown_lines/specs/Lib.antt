-- The definitions of this crate.
pub mod PiecesOfLines
pub mod LineLaws

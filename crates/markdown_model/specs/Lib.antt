-- The definitions of this crate.
-- What has to be believed: what public contracts and the theorem cite.
pub mod CodeTests
pub mod Grammar
pub mod TextLines
pub mod Whitespace
pub mod Resource
pub mod LeafConstructs
pub mod HtmlText
pub mod GfmAutolinkLiteral
pub mod GfmEmailLiteral
pub mod Setting
pub mod LabelEnd
pub mod Elements
pub mod Runs
pub mod Pairs
pub mod BracketGroups
pub mod Passes
pub mod SingleConstructs
pub mod InlineTree
pub mod Laws
-- What serves proofs: what functions and proofs promise each other.
pub mod CodeLines

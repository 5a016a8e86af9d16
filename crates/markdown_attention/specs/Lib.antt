-- The definitions of this crate.
-- What has to be believed: what public contracts and the theorem cite.
pub mod NumberedPairs
pub mod PairScan
pub mod OpenRuns
pub mod RunContainers
pub mod Attention
pub mod RunsRead
pub mod RunsOfEvents
pub mod RunsOfTree
pub mod RunEvents
pub mod TokenWord
pub mod AttentionTrees
pub mod RunEdits
pub mod AttentionPass
pub mod RunsInOrder
-- What serves proofs: what functions and proofs promise each other.
pub mod PairSizes
pub mod SizeNodes
pub mod SolePairs
pub mod RunSteps
pub mod RowLines

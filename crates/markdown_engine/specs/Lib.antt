-- The definitions of this crate.
-- What has to be believed: what public contracts and the theorem cite.
pub mod RestingFields
pub mod RunStart
pub mod Operations
pub mod StateRuns
pub mod Weights
pub mod CallsWithAttempts
pub mod PassesInOrder
pub mod PastTree
pub mod Steady
pub mod StateWords
-- What serves proofs: what functions and proofs promise each other.
pub mod FailedRun
pub mod TreeOps
pub mod OrderedEdits
pub mod TurnCount

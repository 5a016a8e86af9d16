-- The proofs of this crate.
pub mod FirstInnermostEvent
-- The proofs of what is said of innermost events.
pub mod InnermostEventsLaws
-- The proofs of what is said of leaves on lines.
pub mod OneLineTrees
pub mod OneLineLabels
pub mod OneLinePairs
pub mod LinesAreInDocument
pub mod OneLineLeafLemmas
pub mod OneLineConstructs
pub mod LineEndingsAreSpace
pub mod OneLineElements
pub mod LeafOrder
pub mod LeavesAreStretches

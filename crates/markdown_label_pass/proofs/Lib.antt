-- The proofs of the pass of labels, and of what it leaves to pairs and merging.
pub mod BracketEdits
pub mod BracketEditsRead
pub mod LabelPassLaw
pub mod LabelsHandedOverLemmas

-- The definitions of this crate.
-- What has to be believed: what public contracts and the theorem cite.
pub mod LabelFields
pub mod LabelEnd
pub mod LabelStarts
pub mod AfterLabelParts
pub mod Resource
pub mod Brackets
pub mod LabelsHandedOver
-- What serves proofs: what functions and proofs promise each other.
pub mod KeptStarts
pub mod AfterLabel
pub mod BracketsJoined

-- The proofs of the starts and ends of labels.
pub mod LabelEndSteps
pub mod KeptStartStack
pub mod KeptStartPlaces
pub mod MarkedStarts
pub mod LabelStartOps
pub mod LabelEndLemmas
pub mod LabelEndReadings
pub mod LabelEndLaws
pub mod LabelEndStartLaw
pub mod ReferenceFullTree
pub mod ReferenceFullPlaces
pub mod ReferenceFullText
pub mod ReferenceFullLaws
pub mod LabelStartLaws
pub mod AfterLabelSound
pub mod BegunStartPlaces
-- The proofs of resources.
pub mod NextCodeTests
pub mod ResourceReadings
pub mod ResourceWithoutTitleEnd
pub mod ResourceLaws
pub mod ResourceInsideLaws
pub mod ResourceStartLaw
pub mod AfterLabelLaws
pub mod LabelEndStateLaws
pub mod ResourceStateLaws
-- What the states of labels leave to their pass, as events and joined.
pub mod EventsOfBrackets
pub mod BracketJoinLemmas

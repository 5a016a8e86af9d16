-- The definitions of this crate.
-- What has to be believed: what public contracts and the theorem cite.
pub mod RunSetting
pub mod Row
pub mod StringContent
pub mod TextContent
pub mod ContentPasses
pub mod ReaderEnds
pub mod TextStops
pub mod PlacesPassed
pub mod PlainReference
pub mod PlainResource
-- What serves proofs: what functions and proofs promise each other.
pub mod RowTreeNames
pub mod ElementsAsRead
pub mod RunOverElements
pub mod OpenStarts
pub mod RowStart
pub mod CutData
pub mod TryTable
pub mod PlainSpan

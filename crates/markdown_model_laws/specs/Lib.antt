-- The definitions of this crate.
-- What has to be believed: what public contracts and the theorem cite.
pub mod EscapedText
pub mod PairGroups
pub mod ProbeBounds
pub mod DataIsTight
pub mod EmailsInData
pub mod TreesFilled
pub mod MarkersHeld
pub mod RunsInOrderPair
pub mod LinkParts
pub mod ResourceParts
pub mod EventOrder
pub mod DecodableValues
pub mod LentTexts
pub mod LeafPieces
pub mod UnbrokenChains
pub mod BlanksApart
pub mod EmailSchemes
pub mod LinesCut

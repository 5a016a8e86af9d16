-- The definitions of this crate.
-- What has to be believed: what public contracts and the theorem cite.
pub mod DefaultOptions
pub mod CommonMark
pub mod Codes
pub mod Beside
pub mod Content
pub mod LabelTexts
pub mod ContentBytes
pub mod DocumentWalk
pub mod KnownPlaces
pub mod Tree
pub mod Place
pub mod Slices
pub mod ListFunctions
pub mod Nesting
pub mod Stretch
pub mod PlainBytes
-- What serves proofs: what functions and proofs promise each other.
pub mod PlaceInDocument
pub mod ContentTest

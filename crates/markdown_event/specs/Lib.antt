-- The definitions of this crate.
-- What has to be believed: what public contracts and the theorem cite.
pub mod EventNames
pub mod PlaceIndex

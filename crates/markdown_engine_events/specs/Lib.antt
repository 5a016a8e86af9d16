-- The definitions of this crate.
-- What has to be believed: what public contracts and the theorem cite.
pub mod EventChains
pub mod Edits
pub mod MarkedEvents
pub mod Packed
pub mod Stored

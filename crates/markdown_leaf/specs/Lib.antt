-- The definitions of this crate.
-- What has to be believed: what public contracts and the theorem cite.
pub mod CharacterEscape
pub mod HardBreakEscape
pub mod CharacterReference
pub mod RawText
pub mod Autolink

-- The definitions of this crate.
-- What has to be believed: what public contracts and the theorem cite.
pub mod LateNames
pub mod ScratchFields
pub mod ByteTests
pub mod Characters
pub mod StateCalls
-- What serves proofs: what functions and proofs promise each other.
pub mod Plan
pub mod PrecededReadings
pub mod LayerEquation

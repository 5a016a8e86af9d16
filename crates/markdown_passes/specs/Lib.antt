-- The definitions of this crate.
-- What has to be believed: what public contracts and the theorem cite.
pub mod MergedEvents
pub mod TrimmedData
pub mod TrimmedEvents
-- What serves proofs: what functions and proofs promise each other.
pub mod EmailScan
pub mod ClearStretch
pub mod EmailEdits
pub mod DataOnLines

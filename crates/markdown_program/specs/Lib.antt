-- The definitions of this crate.
-- What has to be believed: what public contracts and the theorem cite.
pub mod PrintedLines
pub mod ProgramWords
pub mod ProgramOutput
pub mod ProgramStatuses

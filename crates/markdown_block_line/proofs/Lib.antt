-- The proofs of this crate.
pub mod BlocksBegin
pub mod BreakPlaces
pub mod HtmlBegins
pub mod LinesOfDocument
pub mod RestContainers
pub mod RestLeaves
pub mod RestNumbers
pub mod RestStarts
pub mod RestValues
pub mod TagReadings
pub mod WordReadings

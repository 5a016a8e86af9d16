-- What crosses to C.
-- What has to be believed: what public contracts cite.
pub mod FlatInput
pub mod FlatBlocks
pub mod FlatDefinitions
pub mod FlatDocuments
pub mod FlatExtensions
pub mod FlatEvents
pub mod ShortEvents
pub mod FlatLeaves
pub mod FlatLines
pub mod FlatHtml
pub mod FlatTexts
pub mod FlatStrings
pub mod FlatHtmls
pub mod References
pub mod Statuses
pub mod WholeHtml
pub mod Answers
pub mod Refusals
pub mod Many
pub mod Calls
-- What serves proofs: what functions promise each other.
pub mod HandingOut
pub mod HtmlsState

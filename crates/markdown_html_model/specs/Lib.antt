-- The definitions of this crate.
-- What has to be believed: what public contracts and the theorem cite.
pub mod Roles
pub mod Html
pub mod Escaped
pub mod Resolved
pub mod Schemes
pub mod BrowserScheme
pub mod OwnMarkup
pub mod HtmlLaws

-- The definitions of this crate.
-- What has to be believed: what public contracts and the theorem cite.
pub mod ExampleNotation
pub mod Examples
pub mod HtmlNotation
pub mod RuleRows
pub mod SpecificationRows

-- The definitions of this crate, in the order in which one reads them.
pub mod PageTexts
pub mod PageHtml
pub mod PageMarkup
pub mod PageLaws

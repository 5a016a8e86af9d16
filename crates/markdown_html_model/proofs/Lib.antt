-- The proofs of this crate.
pub mod NoMarkup
mod Pieces
mod ResolvedText
mod ReferenceValues
pub mod KeptBytes
mod Addresses
pub mod HtmlIsOwn
mod Markups
mod SchemesRead
mod ValuesRead
pub mod NulInHtml

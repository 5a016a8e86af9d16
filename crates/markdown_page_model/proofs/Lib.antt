-- The proofs of this crate.
mod TextBytes
mod PageMarkups
mod HeadingLevels
mod PageIsOwn

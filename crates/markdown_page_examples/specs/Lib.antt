pub mod PageNotation
pub mod StandardPages
pub mod ChosenPages

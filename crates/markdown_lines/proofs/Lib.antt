mod FirstBytes
mod LineCodes
mod LineNumbers
mod LinesAreText
mod PiecesInTurn
mod StartsInOrder

mod Common
mod Pieces
mod Blanks
mod Going
mod Formatted

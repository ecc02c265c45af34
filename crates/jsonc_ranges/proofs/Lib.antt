mod Pieces
mod Walk
mod Noting

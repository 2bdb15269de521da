mod Pieces
mod Begins
mod Moves
mod CatchingUp

pub mod BackMoves
pub mod Backed

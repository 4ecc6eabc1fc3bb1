pub mod Law
pub mod Neighbours

pub mod Hops
pub mod Law
pub mod Light

pub mod Alike
pub mod Light
pub mod Repaired
pub mod Rested
pub mod Told

pub mod Known
pub mod Law
pub mod Steps
pub mod Ways

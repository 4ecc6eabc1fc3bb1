pub mod Law
pub mod Meets
pub mod Steps
pub mod Upstream

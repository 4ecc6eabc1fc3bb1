pub mod Growing
pub mod Lasts
pub mod Reading
pub mod Sent

pub mod Calm
pub mod Law
pub mod Listed
pub mod Rows
pub mod Stands
pub mod Unreported

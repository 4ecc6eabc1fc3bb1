pub mod Backups
pub mod Law
pub mod MayTurn

pub mod Answers
pub mod Followed
mod LegRows
pub mod LeastBackup
pub mod LeastRoute
pub mod RowOrder
pub mod Forgetting

pub mod Fitting
mod GuardOrder
pub mod Places
mod Tallies
mod TallyChanges
mod Walked

pub mod Answers
pub mod Bans
pub mod Costs
pub mod Marking
pub mod Network
pub mod Potentials
pub mod Searches
pub mod Trace

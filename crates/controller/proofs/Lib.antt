pub mod AtRest
pub mod FloodCounts
pub mod FloodKept
pub mod Reacting
pub mod Taking

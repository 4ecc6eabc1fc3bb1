pub mod Joins
pub mod LinkStates
pub mod Links
pub mod Parcels
pub mod Protocols
pub mod Stations
pub mod Steps

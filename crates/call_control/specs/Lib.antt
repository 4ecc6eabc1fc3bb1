pub mod PairRules
pub mod Requests
pub mod Reverts
pub mod Rules
pub mod Searches
pub mod Turning

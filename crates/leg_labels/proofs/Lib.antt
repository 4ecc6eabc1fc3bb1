pub mod ClaimLists
pub mod ClaimedLabels
pub mod Contention
pub mod InFibres
pub mod OwnContention
pub mod UsableLabels

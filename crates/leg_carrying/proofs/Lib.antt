pub mod Activated
pub mod CallLegs
pub mod CallOrders
mod GivenLegs
mod GivenUp
mod HeldLabels
pub mod KeptLegs
mod LeftChanges
mod LeftSteps
mod MarkChanges
mod MarkedLegs
pub mod MayMark
pub mod MayPut
pub mod MessageChanges
mod NewLabels
mod ReservedLabels
mod Restored
mod Rests
pub mod RuleChanges

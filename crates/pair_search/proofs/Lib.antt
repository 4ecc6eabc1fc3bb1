mod AllRoutes
mod BoundChecks
mod Bounds
mod EndLists
mod Exact
mod Explored
mod Leaves
pub mod OnwardChecks
pub mod Orders
pub mod Partner
mod PartnerWalks
mod Passes
mod Right
mod Tests
mod Totals
mod Trees
mod Visits

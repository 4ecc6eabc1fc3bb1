pub mod BestPairs
pub mod FoundRoutes
pub mod PlanRows
pub mod TextParts

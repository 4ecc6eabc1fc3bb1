pub mod AtStart
mod CallIndexes
mod CallOrder
mod CallsByLsp
pub mod Halved
mod IndexChanges
pub mod KeyedPlaces
mod LegEdits
mod LegMaps
pub mod LegOrder
mod LspIndex
mod LspOrder
pub mod OwnFibres
pub mod OwnerFibres
pub mod TakenLabels

mod FibrePlaces
mod FreeLabelReads
mod FreedLabels
pub mod FibresInto
pub mod FibresOf
pub mod LabelTests
mod LeastClaims
pub mod LitFibres

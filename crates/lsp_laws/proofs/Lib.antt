pub mod hops
pub mod nodes

pub mod Ages
pub mod Hop
pub mod Order
pub mod Room
pub mod Schedules

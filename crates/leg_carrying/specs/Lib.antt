pub mod LegHolds

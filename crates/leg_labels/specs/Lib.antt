pub mod LegMarks

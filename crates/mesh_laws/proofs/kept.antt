pub mod Calls
pub mod Ended
pub mod Items
pub mod KeptRuns
pub mod Messages
pub mod Phases
pub mod Places

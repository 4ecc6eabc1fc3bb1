pub mod Called
pub mod Calls
pub mod Cuts
pub mod Law
pub mod Reported
pub mod Settled
pub mod Steps

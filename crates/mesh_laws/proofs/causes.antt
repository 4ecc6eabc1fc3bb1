pub mod Answered
pub mod KeptOff
pub mod Leads
pub mod Lone
pub mod Refused
pub mod ToldOf

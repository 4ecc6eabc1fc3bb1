pub mod GroupLists
pub mod Joins
pub mod HitLists
pub mod ContendLists
pub mod MeetLists

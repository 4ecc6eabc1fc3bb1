pub mod Groups
pub mod Index
pub mod Meetings
pub mod Slots
pub mod Views

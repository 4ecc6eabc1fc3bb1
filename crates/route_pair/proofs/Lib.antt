mod BanLists
mod Closing
mod Flags
mod Found
pub mod TestRows
mod WalkBans

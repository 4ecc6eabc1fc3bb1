pub mod Channels
pub mod Migration
pub mod Replays
pub mod Seats

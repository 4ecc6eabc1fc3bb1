pub mod Besides
pub mod Deeds
pub mod Doing
pub mod Events
pub mod Joining
pub mod Linking
mod Ordered
mod Sending
pub mod SoundSending

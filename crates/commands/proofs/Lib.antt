pub mod Ended
mod Reading
mod Replied
mod Slices

pub mod Adjacencies
pub mod Answers
pub mod Controllers
pub mod Frames
pub mod ReadyControllers

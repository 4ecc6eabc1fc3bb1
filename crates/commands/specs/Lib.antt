pub mod CheckTexts
pub mod Given
pub mod Loads
pub mod Numbers
pub mod Options
pub mod Paces
pub mod Replies
pub mod Tasks

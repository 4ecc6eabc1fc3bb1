mod Again
mod Asked
mod Decided
mod Links
mod Searched
pub mod Ticked
mod Told
mod WayBack

pub mod Claims
pub mod Marks
pub mod Owners

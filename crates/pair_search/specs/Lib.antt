pub mod Answers
pub mod Certificates
pub mod Checks
pub mod Claims
pub mod Pairs
pub mod Searches

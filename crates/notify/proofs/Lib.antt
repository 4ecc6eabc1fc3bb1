pub mod NoCall
pub mod Notices

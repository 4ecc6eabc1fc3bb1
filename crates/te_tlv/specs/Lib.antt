pub mod SubTlvs
pub mod Found
pub mod Rows
pub mod Written

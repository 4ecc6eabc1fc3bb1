pub mod Going
pub mod Law
pub mod Only
pub mod Pending
pub mod Rules
pub mod Waiting

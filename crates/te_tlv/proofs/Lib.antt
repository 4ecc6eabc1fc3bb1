pub mod Rising
pub mod Once
pub mod SubTlvsFound
pub mod Lengths
pub mod Spelled

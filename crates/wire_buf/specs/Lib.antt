pub mod Checksum
pub mod Objects
pub mod Routes
pub mod Codecs
pub mod Hex
pub mod Sequences
pub mod Tlvs

pub mod Sums
pub mod Steps
pub mod Numbers
pub mod Sequences
pub mod Codecs
pub mod HexDigits
pub mod Tlvs

pub mod DecodeText
pub mod Hex
pub mod LinesLeft
pub mod OneText

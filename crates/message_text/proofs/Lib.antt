pub mod HexDigits
pub mod HexLines
pub mod OneText

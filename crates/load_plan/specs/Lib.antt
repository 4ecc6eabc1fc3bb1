pub mod Draws
pub mod LoadParts
pub mod Names
pub mod Networks
pub mod PhaseTexts
pub mod Setups

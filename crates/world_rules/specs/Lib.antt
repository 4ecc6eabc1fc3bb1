pub mod Frames
pub mod Images
pub mod Standing
pub mod WorldLaws
pub mod WorldRuns
pub mod Worlds

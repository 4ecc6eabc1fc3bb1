pub mod Growing
pub mod Lawful
pub mod OneWorker
pub mod Outputs
pub mod Restoring
pub mod ScriptLaws
pub mod Stages
pub mod Tables

pub mod Answers
pub mod Loads
pub mod Outputs
pub mod RunLaws
pub mod Running
pub mod Surveys
pub mod Traces
pub mod Views

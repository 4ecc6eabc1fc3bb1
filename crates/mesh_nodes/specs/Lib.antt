pub mod AnswerLaws
pub mod FitNodes
pub mod Learnt
pub mod LocalNodes
pub mod Nodes
pub mod Order
pub mod Routes
pub mod Sent

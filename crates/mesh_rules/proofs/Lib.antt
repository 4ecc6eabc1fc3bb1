pub mod ChangeLists
pub mod LinkNews
pub mod Phases
pub mod Topologies
pub mod AnswerParts

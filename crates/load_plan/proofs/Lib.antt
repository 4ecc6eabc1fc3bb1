mod NameTexts
mod OneMore
mod OtherEnds
mod Postable
mod Topologies

pub mod Bodies
pub mod LabelSets
pub mod RecoveryBodies
pub mod Tlvs

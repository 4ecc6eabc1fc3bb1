mod Activated
mod Activating
mod Answered
mod Asking
mod BackByReport
mod BackupPartlyRepaired
mod BareWithReports
mod BothArmed
mod BothWays
mod BusyAtOnce
mod ComesToRest
pub mod Contended
mod Deactivating
mod Ends
mod Found
mod GuardedCall
mod LetGoAfterContention
mod OneNode
mod OneOfTwoRepaired
mod Passed
mod Protected
mod Reactivating
mod RefusedCause
mod RefusedDown
mod RefusedShare
mod Released
mod Reserved
mod Restored
mod RestoredBothWays
mod RestoredShared
mod RestoredSrlg
mod Retried
pub mod Scene
mod SetUpAlone
pub mod SharedLabel
pub mod SixSweeps
mod Standby
mod StuckAtOnce
mod StuckRepaired
mod Surveyed
mod TakenLabel
mod TickWithReports
mod TornActivating
mod TornArmed
mod TornAsking
pub mod TornContended
mod TornDeactivating
mod TornPassed
mod TornReactivating
mod TurnedAndBack
mod TurnedCall
mod TurnsAtOnce
mod TwoAlone
mod UnknownPrimary
mod WaitEnds
mod WaitOver
mod WayBackRefused
mod WayBackTaken

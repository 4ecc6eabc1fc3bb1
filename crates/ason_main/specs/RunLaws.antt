-- The laws on which a run rests.
use Rattle.fleet.specs.FleetLaws.{FullIsTheLogs, QuietIsTheWorlds, StandingHasMade, StandingIsARecord}
use Rattle.script_rules.specs.ScriptLaws.{FailuresAreRestored, RecordsAreLawful, ScriptRoundLaws}

-- the laws of fleets, of rounds and of records
pub record RunLaws : Type 0 where
  pub possible : StandingIsARecord
  pub made : StandingHasMade
  pub quiet : QuietIsTheWorlds
  pub full : FullIsTheLogs
  pub rounds : ScriptRoundLaws
  pub lawful : RecordsAreLawful
  pub restored : FailuresAreRestored

-- What is told of the best pair, and why there is none.
use Rattle.std.specs.{Prelude.{◌≤◌, List, All, Some, None, length}, List.Contains}
use Rattle.pair_search.specs.{declared.limits.TheConstants.{MOST_ENDS, MOST_ROWS}, Certificates.Certifies, Pairs.{HasNoPair, IsBestPair}, declared.answers.Best.Best, declared.answers.BestFault.BestFault, declared.answers.BestFault.TheVariants.{TooLarge, NoPair, OutOfMemory}}
use Rattle.ason_base.specs.{declared.ids.NodeId.NodeId, declared.network.TeRow.TeRow}

-- at most 24 rows, with at most 16 nodes as their ends
pub record IsSmall (rows : List TeRow) : Type 0 where
  pub count : length rows ≤ MOST_ROWS
  pub ends : List NodeId
  pub few : length ends ≤ MOST_ENDS
  pub each : All (λ row. Contains ends row.low × Contains ends row.high) rows

-- the best pair, and what shows it
pub record IsBest (rows : List TeRow) (from to : NodeId) (best : Best) : Type 0 where
  pub pair : IsBestPair rows from to (record { primary = best.primary; backup = best.backup; total = best.total })
  pub cert : Certifies rows from to (Some best.total) best.cert

abbrev pub IsBestFault : List TeRow → NodeId → NodeId → BestFault → Type 0
IsBestFault rows from to TooLarge = ¬ IsSmall rows
IsBestFault rows from to (NoPair cert) = IsSmall rows × HasNoPair rows from to × Certifies rows from to None cert
IsBestFault rows from to OutOfMemory = Unit {0}

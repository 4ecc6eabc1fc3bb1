-- One station makes its turns, with all known in its rings.
use Rattle.std.proofs.Common.{◌≡◌, ℕ, true, List}
use mathlib.Core.List.{IsPrefix}
use Rattle.rtrb.specs.Ring.{received}
use Rattle.ason_base.specs.{Network.Network, declared.commands.Disturb.Disturb, declared.ids.NodeId.NodeId}
use Rattle.world_rules.specs.WorldRuns.{is_world_channel}
use Rattle.station_rings.specs.LinkStates.{LinkState, gone_of}
use Rattle.round_rules.specs.{Doings.Doing, Records.Record, Fleets.{HasBegun, IsKnown, Wires}}
use Rattle.round_rules.proofs.{Alone.{ds, later_record, now, part, row, wired}, AloneTurns.AloneTurns, Rounding.TurnedAt}

-- Its turns, what came out of the rings before them, and that what came out of its own rings by then had been handed
-- over before.
pub record KnownTurns (t : Network) (lines : List Disturb) (r : Record) (w : Wires) : Type 0 where
  pub alone : AloneTurns t lines r w
  pub begun : (u d : NodeId) → is_world_channel t u d ≡ true → HasBegun w u d
  pub in_known : (u : NodeId) → is_world_channel t u alone.n ≡ true → IsKnown w u alone.n
  pub after_begun : (u : NodeId) → is_world_channel t u alone.n ≡ true →
      IsPrefix (received (wired t lines r w alone alone.n.0 u.0).into) (gone_of (w u.0 alone.n.0))

-- What its turns come to: the node's part, the record and the links afterwards, and the node's links and doings.
pub record TurnsMade (t : Network) (lines : List Disturb) (r : Record) (w : Wires) (a : AloneTurns t lines r w)
    : Type 0 where
  pub turned : TurnedAt t lines r w a.n a.y (part t lines r w a).0
  pub after : Record
  pub wires : Wires
  pub links : ℕ → LinkState
  pub did : List Doing

-- what they come to
abbrev pub turns-made : (t : Network) (lines : List Disturb) (r : Record) (w : Wires) (a : AloneTurns t lines r w) →
    TurnsMade t lines r w a
turns-made t lines r w a = record {
  turned = now t lines r w a;
  after = later_record t lines r w a;
  wires = wired t lines r w a;
  links = row t lines r w a;
  did = ds t lines r w a;
}

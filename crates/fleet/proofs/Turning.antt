-- What all turns of a station in a round make of its links and its log.
use Rattle.std.proofs.Common.{◌≡◌, ◌≤◌, ℕ, zero, suc, Bool, true, false, List, length, inl, inr, arith}
use Rattle.std.specs.List.{AllZip}
use Rattle.ason_base.specs.{declared.ids.NodeId.NodeId, Network.Network}
use Rattle.round_rules.specs.{Doings.Doing, PartLimits.IsAtLimit, Moves.HasMoved, States.{IsStationOf, StationState}, Turned.{HasTurned, HaveMadeTurns, comes_to_end, is_at_limit}, declared.turns.Turn.Turn}
use Rattle.round_rules.specs.declared.turns.Turn.TheVariants as turn
use Rattle.round_rules.proofs.Links.{all-moved-twice}

-- frames were sent and taken over its links
pub turns-moved : (k : ℕ) (tick : Bool) (old new : StationState) (end : Turn) → HaveMadeTurns k tick old new end →
    AllZip HasMoved old.links new.links
turns-moved zero tick old new end made = absurd made
turns-moved (suc k) tick old new end (inl last) = last.links
turns-moved (suc k) tick old new end (inr first) =
    all-moved-twice old.links first.mid.links new.links first.turn.links
    (turns-moved k false first.mid new end first.rest)

-- A turn that comes to its end

turn_grows : (tick : Bool) (old new : StationState) (end : Turn) → HasTurned old new tick end →
    comes_to_end end ≡ true → length old.log ≤ length new.log
turn_grows tick old new (turn.Worked k) turned ends = let more = turned.1 in omega (arith, more)
turn_grows tick old new turn.Idle turned ends = let more = turned.0 in omega (arith, more)
turn_grows tick old new turn.AtLimit turned ends = absurd (cc (ends))
turn_grows tick old new turn.Starved turned ends = absurd (cc (ends))

still_of : (tick : Bool) (old new : StationState) (end : Turn) → HasTurned old new tick end →
    comes_to_end end ≡ true → (t : Network) (n : NodeId) (ds : List Doing) → IsStationOf t n ds old →
    (es : List Doing) × IsStationOf t n es new
still_of tick old new (turn.Worked k) turned ends t n ds is = (_, (turned.2 t n ds is).stands)
still_of tick old new turn.Idle turned ends t n ds is = (_, (turned.1 t n ds is).stands)
still_of tick old new turn.AtLimit turned ends t n ds is = absurd (cc (ends))
still_of tick old new turn.Starved turned ends t n ds is = absurd (cc (ends))

-- where all came to their end, no line went away
pub turns-grow : (k : ℕ) (tick : Bool) (old new : StationState) (end : Turn) → HaveMadeTurns k tick old new end →
    comes_to_end end ≡ true → length old.log ≤ length new.log
turns-grow zero tick old new end made ends = absurd made
turns-grow (suc k) tick old new end (inl last) ends = turn_grows tick old new end last.turned ends
turns-grow (suc k) tick old new end (inr first) ends =
    let one = turn_grows tick old first.mid first.answer first.turn.turned first.ended in
    let rest = turns-grow k false first.mid new end first.rest ends in
    omega (arith, one, rest)

-- where they ended at the limit, the station of a node is at it
pub turns-limit : (k : ℕ) (tick : Bool) (old new : StationState) (end : Turn) → HaveMadeTurns k tick old new end →
    is_at_limit end ≡ true → (t : Network) (n : NodeId) (ds : List Doing) → IsStationOf t n ds old → IsAtLimit new
turns-limit zero tick old new end made at t n ds is = absurd made
turns-limit (suc k) tick old new end (inl last) at t n ds is = last.limit at t n ds is
turns-limit (suc k) tick old new end (inr first) at t n ds is =
    let mid = still_of tick old first.mid first.answer first.turn.turned first.ended t n ds is in
    turns-limit k false first.mid new end first.rest at t n mid.0 mid.1

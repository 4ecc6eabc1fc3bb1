-- What a station did, and its limit, don't depend on what it answers and publishes.
use Rattle.std.proofs.Common.{Bool, List, inl, inr}
use Rattle.std.specs.Prelude.{Option}
use Rattle.ason_base.specs.{declared.commands.Disturb.Disturb, declared.ids.NodeId.NodeId, Network.Network}
use Rattle.mgmt_view.specs.Publishing.{PublisherState}
use Rattle.round_rules.specs.{Doings.Doing, PartLimits.IsAtLimit, States.StationState, Turned.{StarvesTo, TurnsTo}, declared.turns.Turn.Turn}

-- the station with this answer and this publisher
abbrev pub with_aside : StationState → Turn → Option PublisherState → StationState
with_aside s x p = record s { answer = x; publisher = p }

pub turns-aside : (t : Network) (n : NodeId) (ds : List Doing) (tick halted : Bool) (old new : StationState)
    (x y : Turn) (p q : Option PublisherState) → TurnsTo t n ds tick halted old new →
    TurnsTo t n ds tick halted (with_aside old x p) (with_aside new y q)
turns-aside t n ds tick halted old new x y p q is = record {
  due = is.due;
  are_due = is.are_due;
  pops = is.pops;
  are_pops = is.are_pops;
  stands = record { stands = is.stands.stands; taken = is.stands.taken };
  halts = is.halts;
}

pub starves-aside : (t : Network) (lines : List Disturb) (n : NodeId) (ds : List Doing) (tick : Bool)
    (new : StationState) (x : Turn) (p : Option PublisherState) → StarvesTo t lines n ds tick new →
    StarvesTo t lines n ds tick (with_aside new x p)
starves-aside t lines n ds tick new x p is = record {
  made = is.made;
  last = is.last;
  cut = is.cut;
  is_last = is.is_last;
  stands = record { stands = is.stands.stands; taken = is.stands.taken };
}

pub limit-aside : (s : StationState) (x : Turn) (p : Option PublisherState) → IsAtLimit s → IsAtLimit (with_aside s x p)
limit-aside s x p (inl full) = inl full
limit-aside s x p (inr (inl clock)) = inr (inl clock)
limit-aside s x p (inr (inr stamp)) =
    inr (inr (record { from = stamp.from; parcel = stamp.parcel; came = stamp.came; last = stamp.last }))

-- A station does the same whether it is watched or not.
use Rattle.std.proofs.Common.{◌+◌, ℕ, Bool, true, false, List, [], ◌∷◌, ◌++◌}
use Rattle.std.specs.Prelude.{Option}
use Rattle.ason_base.specs.{declared.ids.NodeId.NodeId, Network.Network}
use Rattle.mgmt_view.specs.Publishing.{PublisherState}
use Rattle.world_merge.specs.Deeds.{Heard}
use Rattle.round_rules.specs.{Doings.{Did, Doing}, Functions.clock_of, States.{IsStationOf, StationState}, Turned.{HasMadeTurn, HasTurned, TurnsTo}, declared.turns.Turn.Turn}
use Rattle.round_rules.specs.declared.turns.Turn.TheVariants as turn
use Rattle.station.specs.{Noise.HasHeard, Watched.with_publisher}
use Rattle.station.proofs.Aside.{limit-aside, starves-aside, turns-aside}

module _ (p : Option PublisherState) where
  -- it stands by the same doings
  watched-stands : (t : Network) (n : NodeId) (ds : List Doing) (s : StationState) → IsStationOf t n ds s →
      IsStationOf t n ds (with_publisher s p)
  watched-stands t n ds s is = record { stands = is.stands; taken = is.taken }

  unwatched-stands : (t : Network) (n : NodeId) (ds : List Doing) (s : StationState) →
      IsStationOf t n ds (with_publisher s p) → IsStationOf t n ds s
  unwatched-stands t n ds s is = record { stands = is.stands; taken = is.taken }

  module _ (tick : Bool) (old new : StationState) where
    -- a turn that came to its end, or was halted
    turns_so : (t : Network) (n : NodeId) (ds : List Doing) (halted : Bool) → TurnsTo t n ds tick halted old new →
        TurnsTo t n ds tick halted (with_publisher old p) (with_publisher new p)
    turns_so t n ds halted is = turns-aside t n ds tick halted old new old.answer new.answer p p is

    turned_so : (end : Turn) → HasTurned old new tick end →
        HasTurned (with_publisher old p) (with_publisher new p) tick end
    turned_so (turn.Worked k) is = (
      is.0,
      is.1,
      λ t n ds stands. turns_so t n ds false (is.2 t n ds (unwatched-stands t n ds old stands)),
    )
    turned_so turn.Idle is =
        (is.0, λ t n ds stands. turns_so t n ds false (is.1 t n ds (unwatched-stands t n ds old stands)))
    turned_so turn.AtLimit is =
        λ t n ds stands. turns_so t n ds true (is t n ds (unwatched-stands t n ds old stands))
    turned_so turn.Starved is = λ t n ds stands.
        starves-aside t old.lines n ds tick new new.answer p (is t n ds (unwatched-stands t n ds old stands))

    -- a turn
    pub made-watched : (end : Turn) → HasMadeTurn tick old new end →
        HasMadeTurn tick (with_publisher old p) (with_publisher new p) end
    made-watched end is = record {
      turned = turned_so end is.turned;
      lines = is.lines;
      links = is.links;
      drained = is.drained;
      limit = λ e t n ds stands.
          limit-aside new new.answer p (is.limit e t n ds (unwatched-stands t n ds old stands));
    }

  -- noise
  pub heard-watched : (u : NodeId) (bytes : List ℕ) (old new : StationState) → HasHeard u bytes old new →
      HasHeard u bytes (with_publisher old p) (with_publisher new p)
  heard-watched u bytes old new is = record {
    stands = λ t n ds stands.
        watched-stands t n (ds ++ Did (Heard (clock_of ds + 1) u bytes) ∷ []) new
        (is.stands t n ds (unwatched-stands t n ds old stands));
    links = is.links;
    lines = is.lines;
    grows = is.grows;
    node = is.node;
    log = is.log;
  }

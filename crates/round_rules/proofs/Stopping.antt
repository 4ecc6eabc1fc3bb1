-- With one worker a round is over where a node halts at its limit.
use Rattle.std.proofs.Common.{◌≡◌, ℕ, List, [], ◌++◌, length, refl, sym, ap, ◌∙◌, arith, append-nil, true, false, subst, Bool, nat_eq, ◌<◌}
use Rattle.std.specs.List.{AllZip}
use Rattle.ason_base.specs.{declared.limits.TheConstants.MOST_EVENTS, Network.{Network, is_node_id}, declared.commands.Disturb.Disturb, declared.ids.NodeId.NodeId}
use Rattle.ason_base.proofs.Bridges.{same_node}
use Rattle.world_rules.specs.WorldRuns.{is_world_channel}
use Rattle.world_merge.specs.Logs.{log_of}
use Rattle.round_rules.specs.{Doings.deeds_in, OneWorker.ids_of, Records.{Record, log_at}, Rounds.IsRoundAt, Unfinished.{CameToEnd, EndsPart, HaltedAtLimit, IsHaltedAt, IsUnfinished, IsUnfinishedBy, NotBegun, leaves}, States.StationState, Turned.is_at_limit, Fleets.{AllBegun, AreStanding, HasBegun, IsStationAt, Wires}, FleetOneWorker.{AreNext, IsKnownAround, IsPlaced, IsUnderWay, NodesGoOn, is_node_among}, Rounding.HasHaltedFull, FleetTurns.{AfterTurns, HasMadeRound}}
use Rattle.round_rules.proofs.{Alone.{grown-alone, later_record, standing-alone, wired}, AloneTurns.AloneTurns, Begun.all-begun, Choosing.ThroughMiddle, KnownTurns.turns-made, Next.{next-fresh, next-known, stops-at}, NoLefts.leaves-added, NoPosts.turn-adds, OneHalt.ends-here, RoundParts.{RoundPart, round-part}, Stepping.{alone_turns, drops-now, earlier-part, elsewhere, frames-here, goes-on, here-did, known_turns, turns-here, was-still}, Working.part-round}

module _ (t : Network) (lines : List Disturb) (before : Record) (ns : List NodeId) (q : Record) (w : Wires)
    (xs : List StationState) (n : NodeId) (many : ℕ) (y : AfterTurns) (ys : List StationState)
    (way : IsUnderWay t lines before ns q w xs) (node : is_node_id t.nodes n ≡ true)
    (fresh : is_node_among ns n.0 ≡ false) (next : AreNext t ns n) (around : IsKnownAround t w n)
    (b : ThroughMiddle (IsStationAt t lines q w) (HasMadeRound many) n y)
    (placed : AllZip (IsPlaced t lines q w n y.station) (ids_of t) ys) where
  abbrev turns : AloneTurns t lines q w
  turns = alone_turns t lines before ns q w xs n many y ys way node fresh around b placed

  open turns-made t lines q w turns use {turned, after, wires}

  module _ (looked : (u : NodeId) → is_world_channel t u n ≡ true → HasBegun wires u n) (halted : HasHaltedFull y)
      (limit : is_at_limit y.end ≡ true) where
    stands_now : AreStanding t lines after wires ys
    stands_now = standing-alone t lines q w turns

    begun_now : AllBegun t wires
    begun_now =
        all-begun t lines q w (known_turns t lines before ns q w xs n many y ys way node fresh around b placed looked)

    -- a node that made its part before
    earlier : (m : NodeId) → is_node_among ns m.0 ≡ true → IsRoundAt t lines before after m
    earlier m e =
        part-round t lines before after wires ys stands_now begun_now m
        (earlier-part t lines before ns q w xs n many y ys way node fresh around b placed m e)

    halted_here : IsHaltedAt t lines before after n
    halted_here = record {
      due = (turned.turns halted.fed).due;
      pops = (turned.turns halted.fed).pops;
      frames = frames-here t lines before ns q w xs n many y ys way node fresh around b placed looked halted.fed;
      turn = turns-here t lines before ns q w xs n many y ys way node fresh around b placed halted.fed true limit;
      full = full_now;
    }
      where
        full_now : length (log_at after n.0) ≡ MOST_EVENTS
        full_now =
            ap (λ ks. length (log_of n (deeds_in ks))) ((here-did t lines before ns q w xs n many y ys way node fresh
            around b placed) ∙ turned.whole_is)
            ∙ ap length (sym turned.done.stands.stands.sound.log) ∙ halted.full limit

    ends_at : (m : NodeId) (c d : Bool) → is_node_among ns m.0 ≡ c → nat_eq m.0 n.0 ≡ d →
        EndsPart t lines before after m
    ends_at m true d e f = CameToEnd (earlier m e)
    ends_at m false true e f = subst (EndsPart t lines before after) (sym (same_node m n f)) (HaltedAtLimit halted_here)
    ends_at m false false e f = NotBegun
        (elsewhere t lines before ns q w xs n many y ys way node fresh around b placed m.0 f ∙ way.part.others m.0 e)

    not_among : (m : NodeId) → is_node_id t.nodes m ≡ false → (c : Bool) → is_node_among ns m.0 ≡ c →
        is_node_among ns m.0 ≡ false
    not_among m none true e = absurd (cc (none, way.part.known m e))
    not_among m none false e = e

    not_node : (m : NodeId) → is_node_id t.nodes m ≡ false → (c : Bool) → nat_eq m.0 n.0 ≡ c → nat_eq m.0 n.0 ≡ false
    not_node m none true e = absurd (cc (none, node, ap (is_node_id t.nodes) (same_node m n e)))
    not_node m none false e = e

    is_over : IsUnfinished t lines before after
    is_over = record {
      nodes = λ m h. ends_at m (is_node_among ns m.0) (nat_eq m.0 n.0) refl refl;
      others = λ m none. elsewhere t lines before ns q w xs n many y ys way node fresh around b placed m.0
          (not_node m none (nat_eq m.0 n.0) refl)
          ∙ way.part.others m.0 (not_among m none (is_node_among ns m.0) refl);
      drops = λ u d. drops-now t lines before ns q w xs n many y ys way node fresh around b placed u d
          (nat_eq u.0 n.0) refl;
      some = (n, node, halted_here);
    }

    -- Where it stops

    left_here : leaves before after n ≡ true
    left_here =
        leaves-added before after n turned.done.added (here-did t lines before ns q w xs n many y ys way node fresh
        around b placed ∙ turned.whole_is ∙ ap (λ ks. ks ++ turned.done.added)
        (was-still t lines before ns q w xs n many y ys way node fresh around b placed))
        ∙ turned.done.left ∙ limit

    -- other nodes came to their end, or made no turn
    left_none : (m : NodeId) (c : Bool) → is_node_among ns m.0 ≡ c → nat_eq m.0 n.0 ≡ false →
        leaves before after m ≡ false
    left_none m true e other =
        let p : RoundPart t lines before after m = round-part t lines before after m (earlier m e) in
        leaves-added before after m p.added p.all ∙ (turn-adds t lines m true (before.doings m.0) p.added p.turn).1
    left_none m false e other =
        leaves-added before after m []
        (elsewhere t lines before ns q w xs n many y ys way node fresh around b placed m.0 other ∙ way.part.others m.0 e
        ∙ sym (append-nil (before.doings m.0)))

    below : (m : NodeId) → m.0 < n.0 → nat_eq m.0 n.0 ≡ false
    below m h = go (nat_eq m.0 n.0) refl
      where
        go : (c : Bool) → nat_eq m.0 n.0 ≡ c → nat_eq m.0 n.0 ≡ false
        go true e =
            let same : m.0 ≡ n.0 = ap (λ (v : NodeId). v.0) (same_node m n e) in absurd (omega (arith, h, same))
        go false e = e

    is_stopped : IsUnfinishedBy t lines 1 before after n
    is_stopped = record {
      unfinished = is_over;
      stopped = record {
        known = node;
        left = left_here;
        least = λ m there h. left_none m (is_node_among ns m.0) refl (below m h);
        full = halted_here.full;
      };
      one = λ e. stops-at t lines before q after ns n next way.exact
          (ends-here t lines q w
          (known_turns t lines before ns q w xs n many y ys way node fresh around b placed looked) limit);
    }

-- A node makes its turns: the round goes on, or is over.
pub nodes-go-on : NodesGoOn
nodes-go-on t lines before ns q w xs n x many y ys way next around is made placed =
    let turns = alone_turns t lines before ns q w xs n many y ys way node fresh around b placed in
    record {
      after = later_record t lines q w turns;
      wires_after = wired t lines q w turns;
      stands = standing-alone t lines q w turns;
      grown = grown-alone t lines q w turns;
      goes_on = goes-on t lines before ns q w xs n many y ys way node fresh around b placed;
      ends = is_stopped t lines before ns q w xs n many y ys way node fresh next around b placed;
    }
  where
    node : is_node_id t.nodes n ≡ true
    node = next-known t ns n next

    fresh : is_node_among ns n.0 ≡ false
    fresh = next-fresh t way.stands.valid ns n next

    b : ThroughMiddle (IsStationAt t lines q w) (HasMadeRound many) n y
    b = record { mid = x; one = is; two = made }

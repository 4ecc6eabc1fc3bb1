-- Turns of all stations are a round, or a round that a limit ends.
use Rattle.std.proofs.Common.{◌≡◌, ℕ, Bool, true, false, cond, List, [], ◌++◌, length, map, refl, sym, ap, ◌∙◌, append-nil}
use Rattle.std.specs.List.{AllByRecursion, AllZip, Contains}
use Rattle.ason_base.specs.{Network.{Network, is_node_id}, declared.commands.Disturb.Disturb, declared.ids.NodeId.NodeId}
use Rattle.ason_base.proofs.Members.{one-of_all}
use Rattle.world_rules.specs.WorldRuns.{is_world_channel}
use Rattle.round_rules.specs.{Limits.{going, turn_to}, OneWorker.ids_of, Records.Record, Rings.{is_number_in, standing}, Rounds.{AreFramesAt, DropsAt, IsRound, IsRoundAt, numbers_by}, Unfinished.{CameToEnd, EndsPart, HaltedAtLimit, IsHaltedAt, IsUnfinished}, States.StationState, Turned.{comes_to_end, is_at_limit, is_starved}, Fleets.{AllBegun, AreKnown, AreStanding, Wires}, Rounding.{AreHalted, HasHaltedFull, IsLeftAt, TurnsMakeARound}, FleetTurns.{AfterTurns, HasMadeRound}}
use Rattle.round_rules.proofs.{AllTurns.AllTurns, Choosing.{Beside, zip-first, zip-more}, Contents.told-to, Counting.{drops-at, drops_over, stands-count, takes-all}, FramesAt.frames-at, Got.popped-got, NoLefts.leaves-added, Nodes.{among-ids, near-there, there-among}, Rounding.{Now, after-turns, dropped-now, elsewhere, grown-now, moves, now-all, now-at, standing-after, stands-now, wires-after}, TurnEnds.{all-ended, not-halted, not-starved}}

module _ (t : Network) (lines : List Disturb) (r : Record) (wires : Wires) (many : ℕ) (xs : List StationState)
    (ys : List AfterTurns) (all : AreStanding t lines r wires xs) (turned : AllZip (HasMadeRound many) xs ys)
    (known : AreKnown t wires) where
  abbrev later : Record
  later = after-turns t lines r wires many xs ys all turned

  abbrev wired : Wires
  wired = wires-after t lines r wires many xs ys all turned

  abbrev Here : NodeId → AfterTurns → Type 0
  Here = Now t lines r wires many xs ys all turned

  here : (n : NodeId) → is_node_id t.nodes n ≡ true → Beside Here ys n
  here = now-at t lines r wires many xs ys all turned

  drops : (u d : NodeId) (b : Bool) → is_world_channel t u d ≡ b → DropsAt t r later u d
  drops u d true joined =
      let m = moves t lines r wires many xs ys all turned u d joined in
      let k = known u d joined in
      drops-at t r later u d (wires u.0 d.0) (wires d.0 u.0) (wired u.0 d.0) (wired d.0 u.0) m.before m.sends
      m.after.count m.after.taken (dropped-now t lines r wires many xs ys all turned u d joined)
      (stands-count t r u d (wires u.0 d.0) (wires d.0 u.0) m.before k.whole k.standing)
  drops u d false apart = record {
    more = [];
    all =
        ap (λ b. cond b (r.dropped u.0 d.0 ++ drops_over (wires u.0 d.0) (wired u.0 d.0)) (r.dropped u.0 d.0)) apart
        ∙ sym (append-nil (r.dropped u.0 d.0));
    later = tt;
    may = tt;
  }

  left_at : (n : NodeId) (y : AfterTurns) → Here n y → IsLeftAt r later n y
  left_at n y is = leaves-added r later n is.done.added is.whole_is ∙ is.done.left

  -- a node left an input just where its turns ended at the limit
  lefts : AllZip (IsLeftAt r later) (ids_of t) ys
  lefts =
      zip-more Here (IsLeftAt r later) left_at (ids_of t) ys (now-all t lines r wires many xs ys all turned)

  -- Once what came out of the rings is known to have been handed to them

  module _ (begun : AllBegun t wired) where
    frames : (n : NodeId) (y : AfterTurns) (is : Here n y) (fed : is_starved y.end ≡ false) →
        AreFramesAt t r later n (is.turns fed).due (is.turns fed).pops
    frames n y is fed =
        frames-at t lines r wires n is.old is.was later wired (map (λ (z : AfterTurns). z.station) ys)
        (standing-after t lines r wires many xs ys all turned) begun y.station
        (stands-now t lines r wires many xs ys all turned n y is) (is_at_limit y.end) is.done.added (is.turns fed)

    turns_made : (n : NodeId) (y : AfterTurns) (is : Here n y) (fed : is_starved y.end ≡ false) (halted : Bool) →
        is_at_limit y.end ≡ halted → turn_to t lines n true (r.doings n.0) (is.turns fed).due (is.turns fed).pops ≡
        record { doings = later.doings n.0; halted = halted }
    turns_made n y is fed halted e =
        let a : AllTurns t n true (r.doings n.0) is.old y.station (is_at_limit y.end) is.done.added = is.turns fed in
        sym (told-to t is.old.lines lines n true (r.doings n.0) a.due a.pops is.was.told) ∙ a.turn
        ∙ (λ i. record { doings = sym is.whole_is i; halted = e i })

    round_at : (n : NodeId) (y : AfterTurns) → Here n y → comes_to_end y.end ≡ true → IsRoundAt t lines r later n
    round_at n y is ended = record {
      due = a.due;
      pops = a.pops;
      frames = frames n y is fed;
      turn = turn;
      taken = taken;
    }
      where
        fed : is_starved y.end ≡ false
        fed = not-starved y.end ended

        a : AllTurns t n true (r.doings n.0) is.old y.station (is_at_limit y.end) is.done.added
        a = is.turns fed

        turn : turn_to t lines n true (r.doings n.0) a.due a.pops ≡ going (later.doings n.0)
        turn = turns_made n y is fed false (not-halted y.end ended)

        taken : (u : NodeId) (k : ℕ) → is_world_channel t u n ≡ true → is_number_in (standing t r u n) k ≡ true →
            is_number_in (numbers_by u a.pops) k ≡ true
        taken u k joined h =
            let m = moves t lines r wires many xs ys all turned u n joined in
            ap (λ ks. is_number_in ks k)
            (sym (popped-got u t lines n true (r.doings n.0) is.done.added a.due a.pops (turn ∙ ap going is.whole_is)))
            ∙ takes-all t r later u n (wires u.0 n.0) (wires n.0 u.0) (wired u.0 n.0) (wired n.0 u.0) m.before m.sends
            m.after.count m.after.taken (dropped-now t lines r wires many xs ys all turned u n joined) is.done.added
            is.whole_is (is.drained ended u (near-there t n u joined)) (known u n joined).whole k h

    is_round : AllByRecursion (λ (y : AfterTurns). comes_to_end y.end ≡ true) ys → IsRound t lines r later
    is_round ended = record {
      nodes = λ n there.
          let h = here n there in
          round_at n h.item h.is (one-of_all (λ (y : AfterTurns). comes_to_end y.end ≡ true) ys h.item ended h.there);
      others = λ n none. elsewhere t lines r wires many xs ys all turned n.0 none;
      drops = λ u d. drops u d (is_world_channel t u d) refl;
    }

    -- A limit

    halted_at : (n : NodeId) (y : AfterTurns) → Here n y → HasHaltedFull y → is_at_limit y.end ≡ true →
        IsHaltedAt t lines r later n
    halted_at n y is h limit = record {
      due = (is.turns h.fed).due;
      pops = (is.turns h.fed).pops;
      frames = frames n y is h.fed;
      turn = turns_made n y is h.fed true limit;
      full =
          ap length (sym (stands-now t lines r wires many xs ys all turned n y is).station.stands.sound.log)
          ∙ h.full limit;
    }

    ends_at : (n : NodeId) (y : AfterTurns) → Here n y → HasHaltedFull y → EndsPart t lines r later n
    ends_at n y is h = go (is_at_limit y.end) refl
      where
        go : (b : Bool) → is_at_limit y.end ≡ b → EndsPart t lines r later n
        go true e = HaltedAtLimit (halted_at n y is h e)
        go false e = CameToEnd (round_at n y is (all-ended y.end h.fed e))

    has_halted : AreHalted ys → (n : NodeId) × (is_node_id t.nodes n ≡ true) × IsHaltedAt t lines r later n
    has_halted h = (
      found.0,
      sym (among-ids t found.0) ∙ there-among (ids_of t) found.0 found.1,
      halted_at found.0 h.node found.2 (one-of_all HasHaltedFull ys h.node h.all h.there) h.limit,
    )
      where
        found : (n : NodeId) × Contains (ids_of t) n × Here n h.node
        found = zip-first Here (ids_of t) ys h.node (now-all t lines r wires many xs ys all turned) h.there

    is_unfinished : AreHalted ys → IsUnfinished t lines r later
    is_unfinished h = record {
      nodes = λ n there.
          let b = here n there in ends_at n b.item b.is (one-of_all HasHaltedFull ys b.item h.all b.there);
      others = λ n none. elsewhere t lines r wires many xs ys all turned n.0 none;
      drops = λ u d. drops u d (is_world_channel t u d) refl;
      some = has_halted h;
    }

-- Turns of all stations are a round, or one that a limit ends.
pub turns-make-a-round : TurnsMakeARound
turns-make-a-round t lines r wires many xs ys all known turned = record {
  after = after-turns t lines r wires many xs ys all turned;
  wires_after = wires-after t lines r wires many xs ys all turned;
  stands = standing-after t lines r wires many xs ys all turned;
  grown = grown-now t lines r wires many xs ys all turned;
  left = lefts t lines r wires many xs ys all turned known;
  round = is_round t lines r wires many xs ys all turned known;
  unfinished = is_unfinished t lines r wires many xs ys all turned known;
}

-- With one worker a node makes its turns, and the round goes on.
use Rattle.std.proofs.{Common.{◌≡◌, ◌≤◌, ℕ, Bool, true, false, cond, nat_eq, List, [], ◌∷◌, ◌++◌, length, refl, sym, ap, ◌∙◌, subst, arith, append-nil}, lemmas.List.Sums.fold-append}
use Rattle.std.specs.{Prelude.{◌||◌, None}, List.AllZip}
use mathlib.Core.List.{IsPrefix}
use Rattle.rtrb.specs.Ring.{received}
use Rattle.ason_base.specs.{Network.{Network, is_node_id}, declared.commands.Disturb.Disturb, declared.ids.NodeId.NodeId}
use Rattle.ason_base.proofs.{Numbers.{self-number, apart-turned}, Bridges.same_node}
use Rattle.hop_reliable.proofs.Members.{each-more}
use Rattle.world_rules.specs.WorldRuns.{is_world_channel}
use Rattle.world_merge.specs.Deeds.{sent_by}
use Rattle.station_rings.specs.LinkStates.{gone_of}
use Rattle.round_rules.specs.{Doings.{Doing, deeds_in}, OneWorker.{RoundEnd, ids_of, node_round}, Records.Record, Rings.{count_of, standing, got_from, handed, is_number_in}, Rounds.{DropsAt, MayDrop, NumbersRise, AreFramesAt, numbers_by}, States.StationState, Turned.{comes_to_end, is_at_limit, is_starved}, Fleets.{HasBegun, IsStationAt, Wires}, FleetOneWorker.{IsKnownAround, IsPartAt, IsPartRound, IsPlaced, IsUnderWay, is_node_among}, FleetTurns.{AfterTurns, HasMadeRound}, Functions.{AreHeldAs, tick_if}, Held.due_in, Limits.{going, turn_to}}
use Rattle.round_rules.proofs.{Alone.{dropped-apart, dropped-else, drops-alone, later_record, now, part, row, standing-alone, takes-alone, wired, grown-alone, here-now}, AloneTurns.AloneTurns, Begun.all-begun, Choosing.ThroughMiddle, KnownTurns.KnownTurns, Nodes.joins-nodes, OneNode.is-node-round, Partial.{among-more, standing-fewer, standing-still}, Rounding.TurnedAt, TurnEnds.{not-starved, not-halted}, AllTurns.AllTurns, Contents.told-to, FramesAt.frames-at, Got.popped-got, SentOn.sent-on}

-- One node more

module _ (t : Network) (lines : List Disturb) (before : Record) (ns : List NodeId) (q : Record) (w : Wires)
    (xs : List StationState) (n : NodeId) (many : ℕ) (y : AfterTurns) (ys : List StationState)
    (way : IsUnderWay t lines before ns q w xs) (node : is_node_id t.nodes n ≡ true)
    (fresh : is_node_among ns n.0 ≡ false) (around : IsKnownAround t w n)
    (b : ThroughMiddle (IsStationAt t lines q w) (HasMadeRound many) n y)
    (placed : AllZip (IsPlaced t lines q w n y.station) (ids_of t) ys) where
  abbrev pub alone_turns : AloneTurns t lines q w
  alone_turns = record {
    xs = xs;
    all = way.stands;
    n = n;
    node = node;
    many = many;
    y = y;
    made = b;
    known = around.out;
    ys = ys;
    placed = placed;
  }

  abbrev pub after : Record
  after = later_record t lines q w alone_turns

  abbrev pub turned : TurnedAt t lines q w n y (part t lines q w alone_turns).0
  turned = now t lines q w alone_turns

  abbrev pub did : List Doing
  did = (part t lines q w alone_turns).0.0

  -- the node had done nothing
  pub was-still : q.doings n.0 ≡ before.doings n.0
  was-still = way.part.others n.0 fresh

  -- elsewhere nothing is done
  pub elsewhere : (m : ℕ) → nat_eq m n.0 ≡ false → after.doings m ≡ q.doings m
  elsewhere m other = ap (λ c. cond c did (q.doings m)) other

  -- the node did this
  pub here-did : after.doings n.0 ≡ did
  here-did = ap (λ c. cond c did (q.doings n.0)) (self-number n.0)

  abbrev pub wires : Wires
  wires = wired t lines q w alone_turns

  -- after the look what came is a first part of what stood there
  pub begun-here : ((u : NodeId) → is_world_channel t u n ≡ true → HasBegun wires u n) → (u : NodeId) →
      is_world_channel t u n ≡ true → IsPrefix (received (wires n.0 u.0).into) (gone_of (w u.0 n.0))
  begun-here looked u joined =
      subst (λ l. IsPrefix (received (wires n.0 u.0).into) (gone_of l))
      (ap (λ c. cond c (row t lines q w alone_turns) (w u.0) n.0)
      (joins-nodes t u n joined).other) (looked u joined)

  abbrev pub known_turns : ((u : NodeId) → is_world_channel t u n ≡ true → HasBegun wires u n) → KnownTurns t lines q w
  known_turns looked = record {
    alone = alone_turns;
    begun = way.begun;
    in_known = around.into;
    after_begun = begun-here looked;
  }

  -- the frames to which its turns came were sent to it, and are the first of its rings
  pub frames-here : (looked : (u : NodeId) → is_world_channel t u n ≡ true → HasBegun wires u n)
      (fed : is_starved y.end ≡ false) →
      AreFramesAt t before after n (turned.turns fed).due (turned.turns fed).pops
  frames-here looked fed = record {
    held = subst (λ ds. AreHeldAs (due_in (tick_if true ds)) a.due) was-still f.held;
    sent = f.sent;
    first = λ u joined. subst (λ ds. IsPrefix (got_from u ds ++ numbers_by u a.pops) (handed t after u n)) was-still
        (f.first u joined);
  }
    where
      a : AllTurns t n true (q.doings n.0) turned.old y.station (is_at_limit y.end) turned.done.added
      a = turned.turns fed

      f : AreFramesAt t q after n a.due a.pops
      f =
          frames-at t lines q w n turned.old turned.was after wires ys (standing-alone t lines q w alone_turns)
          (all-begun t lines q w (known_turns looked)) y.station (here-now t lines q w alone_turns)
          (is_at_limit y.end) turned.done.added a

  -- what they came to
  pub turns-here : (fed : is_starved y.end ≡ false) (halted : Bool) → is_at_limit y.end ≡ halted →
      turn_to t lines n true (before.doings n.0) (turned.turns fed).due (turned.turns fed).pops ≡
      record { doings = after.doings n.0; halted = halted }
  turns-here fed halted e =
      let a : AllTurns t n true (q.doings n.0) turned.old y.station (is_at_limit y.end) turned.done.added =
      turned.turns fed in
      ap (λ ds. turn_to t lines n true ds a.due a.pops) (sym was-still)
      ∙ sym (told-to t turned.old.lines lines n true (q.doings n.0) a.due a.pops turned.was.told) ∙ a.turn
      ∙ (λ i. record { doings = sym (here-did ∙ turned.whole_is) i; halted = e i })

  node_part : ((u : NodeId) → is_world_channel t u n ≡ true → HasBegun wires u n) → comes_to_end y.end ≡ true →
      IsPartAt t lines before after n
  node_part looked ended = record {
    due = a.due;
    pops = a.pops;
    held = frames.held;
    sent = frames.sent;
    turn = turn;
    taken = λ u k joined h. ap (λ ks. is_number_in ks k) (sym (got u))
        ∙ takes-alone t lines q w alone_turns ended u joined
        (around.into u joined) k (standing-still t lines before q ns way.part u n fresh k h);
  }
    where
      fed : is_starved y.end ≡ false
      fed = not-starved y.end ended

      a : AllTurns t n true (q.doings n.0) turned.old y.station (is_at_limit y.end) turned.done.added
      a = turned.turns fed

      frames : AreFramesAt t before after n a.due a.pops
      frames = frames-here looked fed

      turn : turn_to t lines n true (before.doings n.0) a.due a.pops ≡ going (after.doings n.0)
      turn = turns-here fed false (not-halted y.end ended)

      got : (u : NodeId) → got_from u turned.done.added ≡ numbers_by u a.pops
      got u =
          popped-got u t lines n true (before.doings n.0) turned.done.added a.due a.pops
          (turn ∙ ap going (here-did ∙ turned.whole_is ∙ ap (λ ds. ds ++ turned.done.added) was-still))

  -- a node that made its part before is another one
  pub other-than : (m : ℕ) → is_node_among ns m ≡ true → (c : Bool) → nat_eq m n.0 ≡ c → nat_eq m n.0 ≡ false
  other-than m h true e =
      let same = same_node (record { 0 = m }) n e in
      absurd (cc (h, fresh, ap (λ (v : NodeId). is_node_among ns v.0) same))
  other-than m h false e = e

  -- its part is as it was
  pub earlier-part : (m : NodeId) → is_node_among ns m.0 ≡ true → IsPartAt t lines before after m
  earlier-part m e =
      let p = way.part.nodes m e in
      record {
        due = p.due;
        pops = p.pops;
        held = p.held;
        sent = sent-on t q after m (grown-alone t lines q w alone_turns) (p.due ++ p.pops) p.sent;
        turn = p.turn ∙ ap going (sym (elsewhere m.0 (other-than m.0 e (nat_eq m.0 n.0) refl)));
        taken = p.taken;
      }

  part_of : ((u : NodeId) → is_world_channel t u n ≡ true → HasBegun wires u n) → comes_to_end y.end ≡ true →
      (m : NodeId) (c : Bool) → is_node_among ns m.0 ≡ c → is_node_among (ns ++ n ∷ []) m.0 ≡ true →
      IsPartAt t lines before after m
  part_of looked ended m true e h = earlier-part m e
  part_of looked ended m false e h =
      let last : nat_eq n.0 m.0 ≡ true = sym (ap (λ c. c || nat_eq n.0 m.0) e) ∙ sym (among-more ns n m.0) ∙ h in
      subst (IsPartAt t lines before after) (same_node n m last) (node_part looked ended)

  outside : (m : ℕ) → is_node_among (ns ++ n ∷ []) m ≡ false → (is_node_among ns m ≡ false) × (nat_eq m n.0 ≡ false)
  outside m h = (first (is_node_among ns m) (nat_eq n.0 m) split, turned_eq (second (is_node_among ns m) (nat_eq n.0 m) split))
    where
      split : (is_node_among ns m || nat_eq n.0 m) ≡ false
      split = sym (among-more ns n m) ∙ h

      first : (a c : Bool) → (a || c) ≡ false → a ≡ false
      first true c e = e
      first false c e = refl

      second : (a c : Bool) → (a || c) ≡ false → c ≡ false
      second true c e = absurd (cc (e))
      second false c e = e

      turned_eq : nat_eq n.0 m ≡ false → nat_eq m n.0 ≡ false
      turned_eq e = apart-turned n.0 m e

  -- Drops

  count_was : (d : NodeId) → count_of t q n d ≡ count_of t before n d
  count_was d = ap (λ ds. length (sent_by t n (deeds_in ds) d.0)) was-still

  drops_here : (d : NodeId) (c : Bool) → is_world_channel t n d ≡ c → DropsAt t before after n d
  drops_here d true joined = record {
    more = f.more;
    all = f.all ∙ ap (λ ks. ks ++ f.more) (way.part.still n d fresh);
    later = subst (λ k. NumbersRise k f.more) (count_was d) f.later;
    may = each-more (MayDrop t q after n d) (MayDrop t before after n d) one f.more f.may;
  }
    where
      f : DropsAt t q after n d
      f = drops-alone t lines q w alone_turns d joined

      fewer : length (standing t q n d) ≤ length (standing t before n d)
      fewer = standing-fewer t lines before q ns way.part n d fresh (is_node_among ns d.0) refl

      counted : count_of t q n d ≡ count_of t before n d
      counted = count_was d

      one : (k : ℕ) → MayDrop t q after n d k → MayDrop t before after n d k
      one k m = record { within = m.within; full = let full = m.full in omega (arith, full, fewer, counted) }
  drops_here d false apart = record {
    more = [];
    all =
        dropped-apart t lines q w alone_turns d apart
        ∙ way.part.still n d fresh ∙ sym (append-nil (before.dropped n.0 d.0));
    later = tt;
    may = tt;
  }

  -- what was dropped in the round so far
  pub drops-now : (u d : NodeId) (c : Bool) → nat_eq u.0 n.0 ≡ c → DropsAt t before after u d
  drops-now u d true e =
      subst (λ (v : NodeId). DropsAt t before after v d) (sym (same_node u n e))
      (drops_here d (is_world_channel t n d) refl)
  drops-now u d false e =
      let f = way.part.drops u d in
      record {
        more = f.more;
        all = dropped-else t lines q w alone_turns u d.0 e ∙ f.all;
        later = f.later;
        may =
            each-more (MayDrop t before q u d) (MayDrop t before after u d) (λ k m. record {
              within =
                  subst (λ ds. k ≤ length (sent_by t u (deeds_in ds) d.0)) (sym (elsewhere u.0 e)) m.within;
              full = m.full;
            }) f.more f.may;
      }

  known_now : (m : NodeId) (c : Bool) → is_node_among ns m.0 ≡ c → is_node_among (ns ++ n ∷ []) m.0 ≡ true →
      is_node_id t.nodes m ≡ true
  known_now m true e h = way.part.known m e
  known_now m false e h =
      let last : nat_eq n.0 m.0 ≡ true = sym (ap (λ c. c || nat_eq n.0 m.0) e) ∙ sym (among-more ns n m.0) ∙ h in
      subst (λ (v : NodeId). is_node_id t.nodes v ≡ true) (same_node n m last) node

  part_now : ((u : NodeId) → is_world_channel t u n ≡ true → HasBegun wires u n) → comes_to_end y.end ≡ true →
      IsPartRound t lines before after (ns ++ n ∷ [])
  part_now looked ended = record {
    known = λ m h. known_now m (is_node_among ns m.0) refl h;
    nodes = λ m h. part_of looked ended m (is_node_among ns m.0) refl h;
    others = λ m h. elsewhere m (outside m h).1 ∙ way.part.others m (outside m h).0;
    drops = λ u d. drops-now u d (nat_eq u.0 n.0) refl;
    still = λ u d h.
        dropped-else t lines q w alone_turns u d.0 (outside u.0 h).1
        ∙ way.part.still u d (outside u.0 h).0;
  }

  -- the round goes on
  pub goes-on : ((u : NodeId) → is_world_channel t u n ≡ true → HasBegun wires u n) → comes_to_end y.end ≡ true →
      IsUnderWay t lines before (ns ++ n ∷ []) after wires ys
  goes-on looked ended = record {
    stands = standing-alone t lines q w alone_turns;
    begun = all-begun t lines q w (known_turns looked);
    part = part_now looked ended;
    exact =
        fold-append (node_round t lines) (record { made = before; stopped = None }) ns (n ∷ [])
        ∙ ap (λ (e : RoundEnd). node_round t lines e n) way.exact
        ∙ is-node-round t lines q w (known_turns looked) ended;
  }

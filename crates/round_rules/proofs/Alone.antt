-- One station makes its turns, and the others none.
use Rattle.std.proofs.Common.{◌≡◌, ◌+◌, ◌-◌, ℕ, zero, suc, Bool, true, false, cond, nat_eq, List, [], ◌∷◌, ◌++◌, drop, filter, length, map, refl, sym, ap, ◌∙◌, subst, arith, append-nil}
use Rattle.std.specs.{Prelude.◌&&◌, List.{AllZip, Contains, range_with_len}}
use Rattle.ason_base.specs.{declared.limits.TheConstants.MOST_FRAMES, Network.{Network, is_node_id}, declared.commands.Disturb.Disturb, declared.ids.NodeId.NodeId}
use Rattle.ason_base.proofs.{Numbers.self-number, Bridges.same_node}
use Rattle.world_rules.specs.WorldRuns.{is_world_channel, neighbours_of}
use Rattle.world_merge.specs.{Histories.at, Logs.{is_posted, line_of, posts_of}}
use Rattle.station_rings.specs.LinkStates.{LinkState}
use Rattle.round_rules.specs.{Doings.{Doing, deeds_in}, OneWorker.{after_turns, dropped_in, ids_of, with_doings}, Records.{Record, deeds_at}, Rings.{count_of, got_from, is_number_in, standing}, Rounds.DropsAt, Moves.{HasMoved, IsDrained}, States.{IsStationOf, StationState}, Turned.comes_to_end, Fleets.{AreStanding, HasGrown, IsKnown, IsRecordNowhere, IsRingOf, IsStationAt, Wires}, FleetOneWorker.IsPlaced}
use Rattle.round_rules.proofs.{AloneTurns.AloneTurns, Choosing.zip-more, Counting.{RingFacts, drops-at, drops_over, facts-after, stands-count, takes-all}, Moving.moved-none, Links.ends-stay, NoPosts.posts-more, Replacing.nowhere-kept, Rounding.{NodePart, TurnedAt, one-turned, ring-facts}, Wired.{ChannelEnds, ends-each, link-count, link-taken}}

drops_none : (l : LinkState) → drops_over l l ≡ []
drops_none l =
    let none : l.sent - l.sent ≡ 0 = omega arith in
    nothing (MOST_FRAMES - l.standing) (range_with_len (l.sent + 1) (l.sent - l.sent))
    (ap (range_with_len (l.sent + 1)) none)
  where
    nothing : (k : ℕ) (ns : List ℕ) → ns ≡ [] → drop k ns ≡ []
    nothing zero ns e = e
    nothing (suc k) [] e = refl
    nothing (suc k) (x ∷ ns) e = absurd (cc (e))

module _ (t : Network) (lines : List Disturb) (r : Record) (w : Wires) (a : AloneTurns t lines r w) where
  open a use {xs, all, n, node, many, y, made, known, ys, placed}

  -- the node's part after its turns
  pub part : (a : NodePart) × TurnedAt t lines r w n y a
  part = one-turned t lines r w many all.valid n y made

  abbrev pub now : TurnedAt t lines r w n y part.0
  now = part.1

  abbrev pub row : ℕ → LinkState
  row = part.0.1

  abbrev pub ds : List Doing
  ds = part.0.0

  abbrev pub later_record : Record
  later_record = after_turns t r n ds

  abbrev pub wired : Wires
  wired m = cond (nat_eq m n.0) row (w m)

  -- what the node did
  pub doings-here : later_record.doings n.0 ≡ ds
  doings-here = ap (λ b. cond b ds (r.doings n.0)) (self-number n.0)

  -- what others did stays
  pub doings-else : (m : ℕ) → nat_eq m n.0 ≡ false → later_record.doings m ≡ r.doings m
  doings-else m other = ap (λ b. cond b ds (r.doings m)) other

  -- Stations

  -- the station of the node is that of what it did
  pub here-now : IsStationAt t lines later_record wired n y.station
  here-now = record {
    station = subst (λ ks. IsStationOf t n ks y.station) (sym (doings-here ∙ now.whole_is)) now.done.stands;
    links =
        now.links ∙ ap (λ b. map (λ (u : NodeId). cond b row (w n.0) u.0) (neighbours_of t n)) (sym (self-number n.0));
    told = now.told;
  }

  station_now : (m : NodeId) (s : StationState) → IsPlaced t lines r w n y.station m s →
      IsStationAt t lines later_record wired m s
  station_now m s is = go (nat_eq m.0 n.0) refl
    where
      go : (b : Bool) → nat_eq m.0 n.0 ≡ b → IsStationAt t lines later_record wired m s
      go true e =
          subst (λ (k : NodeId). IsStationAt t lines later_record wired k s) (sym (same_node m n e))
          (subst (IsStationAt t lines later_record wired n) (sym (is.0 e)) here-now)
      go false e =
          let was = is.1 e in
          record {
            station = subst (λ ks. IsStationOf t m ks s) (sym (doings-else m.0 e)) was.station;
            links = was.links ∙ ap (λ b. map (λ (u : NodeId). cond b row (w m.0) u.0) (neighbours_of t m)) (sym e);
            told = was.told;
          }

  -- each station is that of what its node did
  pub each-now : AllZip (IsStationAt t lines later_record wired) (ids_of t) ys
  each-now =
      zip-more (IsPlaced t lines r w n y.station) (IsStationAt t lines later_record wired) station_now (ids_of t) ys
      placed

  -- Rings

  -- the links of the node moved, and others didn't
  pub moved-now : (u d : NodeId) → Contains (neighbours_of t u) d → (b : Bool) → nat_eq u.0 n.0 ≡ b →
      HasMoved (w u.0 d.0) (wired u.0 d.0)
  moved-now u d near true e =
      let same = same_node u n e in
      subst (λ b. HasMoved (w u.0 d.0) (cond b row (w u.0) d.0)) (sym e)
      (subst (λ (k : NodeId). HasMoved (w k.0 d.0) (row d.0)) (sym same)
      (now.moved d (subst (λ (k : NodeId). Contains (neighbours_of t k) d) same near)))
  moved-now u d near false e = subst (λ b. HasMoved (w u.0 d.0) (cond b row (w u.0) d.0)) (sym e)
      (moved-none (w u.0 d.0)).0

  -- what is dropped on a channel
  pub dropped-now : (u d : NodeId) → is_world_channel t u d ≡ true → wired u.0 d.0 ≡ wired u.0 d.0 →
      (wired u.0 d.0).sent ≡ count_of t later_record u d → (b : Bool) → nat_eq u.0 n.0 ≡ b →
      later_record.dropped u.0 d.0 ≡ r.dropped u.0 d.0 ++ drops_over (w u.0 d.0) (wired u.0 d.0)
  dropped-now u d joined same count true e =
      ap (λ b. cond (b && is_world_channel t n d) (r.dropped u.0 d.0 ++ dropped_in t r (with_doings r n.0 ds) n d)
      (r.dropped u.0 d.0)) e
      ∙ ap (λ b. cond b (r.dropped u.0 d.0 ++ dropped_in t r (with_doings r n.0 ds) n d) (r.dropped u.0 d.0)) from_n
      ∙ ap (λ ks. r.dropped u.0 d.0 ++ ks) drops
    where
      is_n : u ≡ n
      is_n = same_node u n e

      from_n : is_world_channel t n d ≡ true
      from_n = subst (λ (k : NodeId). is_world_channel t k d ≡ true) is_n joined

      f : RingFacts t r u d (w u.0 d.0) (w d.0 u.0)
      f = ring-facts t lines r w xs all u d joined

      k : IsKnown w u d
      k = subst (λ (v : NodeId). IsKnown w v d) (sym is_n) (known d from_n)

      long : length (standing t r n d) ≡ (w u.0 d.0).standing
      long =
          ap (λ (v : NodeId). length (standing t r v d)) (sym is_n)
          ∙ stands-count t r u d (w u.0 d.0) (w d.0 u.0) f k.whole k.standing

      was : count_of t r n d ≡ (w u.0 d.0).sent
      was = ap (λ (v : NodeId). count_of t r v d) (sym is_n) ∙ sym f.count

      is : count_of t (with_doings r n.0 ds) n d ≡ (wired u.0 d.0).sent
      is = ap (λ (v : NodeId). count_of t (with_doings r n.0 ds) v d) (sym is_n) ∙ sym count

      drops : dropped_in t r (with_doings r n.0 ds) n d ≡ drops_over (w u.0 d.0) (wired u.0 d.0)
      drops = λ i. drop (MOST_FRAMES - long i) (range_with_len (was i + 1) (is i - was i))
  dropped-now u d joined same count false e =
      ap (λ b. cond (b && is_world_channel t n d) (r.dropped u.0 d.0 ++ dropped_in t r (with_doings r n.0 ds) n d)
      (r.dropped u.0 d.0)) e
      ∙ sym (append-nil (r.dropped u.0 d.0))
      ∙ ap (λ ks. r.dropped u.0 d.0 ++ ks) (sym (drops_none (w u.0 d.0)))
      ∙ ap (λ b. r.dropped u.0 d.0 ++ drops_over (w u.0 d.0) (cond b row (w u.0) d.0)) (sym e)

  -- the facts of each ring afterwards
  pub facts-now : (u d : NodeId) → is_world_channel t u d ≡ true →
      RingFacts t later_record u d (wired u.0 d.0) (wired d.0 u.0)
  facts-now u d joined =
      facts-after t r later_record u d (w u.0 d.0) (w d.0 u.0) (wired u.0 d.0) (wired d.0 u.0)
      (ring-facts t lines r w xs all u d joined) (moved-now u d e.out (nat_eq u.0 n.0) refl) count
      (link-taken t lines later_record wired d e.receiver e.receives u e.into)
      (dropped-now u d joined refl count (nat_eq u.0 n.0) refl) (moved-now d u e.into (nat_eq d.0 n.0) refl)
    where
      e : ChannelEnds t lines later_record wired u d
      e = ends-each t lines later_record wired ys each-now u d joined

      count : (wired u.0 d.0).sent ≡ count_of t later_record u d
      count = link-count t lines later_record wired u e.sender e.sends d e.out

  ring_now : (u d : NodeId) → is_world_channel t u d ≡ true → IsRingOf t later_record wired u d
  ring_now u d joined =
      let f = facts-now u d joined in
      let e = ends-each t lines later_record wired ys each-now u d joined in
      record {
        ends =
            ends-stay (w u.0 d.0) (w d.0 u.0) (wired u.0 d.0) (wired d.0 u.0) (all.rings u d joined).ends
            (moved-now u d e.out (nat_eq u.0 n.0) refl).ends (moved-now d u e.into (nat_eq d.0 n.0) refl).ends;
        handed_over = f.handed_over;
        room = f.room;
        most = f.most;
        past = f.past;
      }

  -- The rest

  not_here : (m : ℕ) → is_node_id t.nodes (at m) ≡ false → (b : Bool) → nat_eq m n.0 ≡ b → nat_eq m n.0 ≡ false
  not_here m none true e =
      let same : at m ≡ n = same_node (at m) n e in absurd (cc (none, ap (is_node_id t.nodes) same, node))
  not_here m none false e = e

  nowhere_now : (m : ℕ) → is_node_id t.nodes (at m) ≡ false → IsRecordNowhere t later_record m
  nowhere_now m none =
      nowhere-kept t r later_record m (doings-else m (not_here m none (nat_eq m n.0) refl)) (all.nowhere m none)

  posts_same : (m : ℕ) (b : Bool) → nat_eq m n.0 ≡ b → posts_of (at m) (deeds_at later_record m) ≡ posts_of (at m)
      (deeds_at r m)
  posts_same m true e =
      ap (map (line_of (at m))) (ap (λ ks. filter is_posted (deeds_in ks)) here
      ∙ posts-more (r.doings m) now.done.added
      ∙ ap (λ es. filter is_posted (deeds_at r m) ++ es) now.done.no_post
      ∙ append-nil (filter is_posted (deeds_at r m)))
    where
      same : at m ≡ n
      same = same_node (at m) n e

      here : later_record.doings m ≡ r.doings m ++ now.done.added
      here = ap (λ b. cond b ds (r.doings m)) e ∙ now.whole_is
          ∙ ap (λ (k : NodeId). r.doings k.0 ++ now.done.added) (sym same)
  posts_same m false e = ap (λ ks. posts_of (at m) (deeds_in ks)) (doings-else m e)

  -- The stations stand for the record after one node's turns.
  pub standing-alone : AreStanding t lines later_record wired ys
  standing-alone = record {
    valid = all.valid;
    each = each-now;
    rings = ring_now;
    nowhere = nowhere_now;
    posts = λ m. posts_same m (nat_eq m n.0) refl ∙ all.posts m ∙ sym (posts_same 0 (nat_eq 0 n.0) refl);
  }

  -- what the node dropped
  pub drops-alone : (d : NodeId) → is_world_channel t n d ≡ true → DropsAt t r later_record n d
  drops-alone d joined =
      drops-at t r later_record n d (w n.0 d.0) (w d.0 n.0) (wired n.0 d.0) (wired d.0 n.0) f
      (moved-now n d e.out (nat_eq n.0 n.0) refl) count (link-taken t lines later_record wired d e.receiver e.receives n
      e.into)
      (dropped-now n d joined refl count (nat_eq n.0 n.0) refl)
      (stands-count t r n d (w n.0 d.0) (w d.0 n.0) f (known d joined).whole (known d joined).standing)
    where
      e : ChannelEnds t lines later_record wired n d
      e = ends-each t lines later_record wired ys each-now n d joined

      f : RingFacts t r n d (w n.0 d.0) (w d.0 n.0)
      f = ring-facts t lines r w xs all n d joined

      count : (wired n.0 d.0).sent ≡ count_of t later_record n d
      count = link-count t lines later_record wired n e.sender e.sends d e.out

  -- others drop nothing
  pub dropped-else : (u : NodeId) (d : ℕ) → nat_eq u.0 n.0 ≡ false → later_record.dropped u.0 d ≡ r.dropped u.0 d
  dropped-else u d other =
      ap (λ b. cond (b && is_world_channel t n (at d))
      (r.dropped u.0 d ++ dropped_in t r (with_doings r n.0 ds) n (at d))
      (r.dropped u.0 d)) other

  -- nor does the node where no channel leads
  pub dropped-apart : (d : NodeId) → is_world_channel t n d ≡ false → later_record.dropped n.0 d.0 ≡ r.dropped n.0 d.0
  dropped-apart d apart =
      ap (λ b. cond (b && is_world_channel t n d) (r.dropped n.0 d.0 ++ dropped_in t r (with_doings r n.0 ds) n d)
      (r.dropped n.0 d.0)) (self-number n.0)
      ∙ ap (λ b. cond b (r.dropped n.0 d.0 ++ dropped_in t r (with_doings r n.0 ds) n d) (r.dropped n.0 d.0)) apart

  -- all that stood in the node's rings is taken
  pub takes-alone : comes_to_end y.end ≡ true → (u : NodeId) → is_world_channel t u n ≡ true → IsKnown w u n → (k : ℕ) →
      is_number_in (standing t r u n) k ≡ true → is_number_in (got_from u now.done.added) k ≡ true
  takes-alone ended u joined told k h =
      takes-all t r later_record u n (w u.0 n.0) (w n.0 u.0) (wired u.0 n.0) (wired n.0 u.0)
      (ring-facts t lines r w xs all u n joined) (moved-now u n e.out (nat_eq u.0 n.0) refl) count
      (link-taken t lines later_record wired n e.receiver e.receives u e.into)
      (dropped-now u n joined refl count (nat_eq u.0 n.0) refl) now.done.added (doings-here ∙ now.whole_is)
      (subst (λ b. IsDrained (w n.0 u.0) (cond b row (w n.0) u.0)) (sym (self-number n.0)) (now.drained ended u e.into))
      told.whole k h
    where
      e : ChannelEnds t lines later_record wired u n
      e = ends-each t lines later_record wired ys each-now u n joined

      count : (wired u.0 n.0).sent ≡ count_of t later_record u n
      count = link-count t lines later_record wired u e.sender e.sends n e.out

  grown_at : (m : ℕ) (b : Bool) → nat_eq m n.0 ≡ b → HasGrown r later_record m
  grown_at m true e =
      let same : at m ≡ n = same_node (at m) n e in
      record {
        added = now.done.added;
        all =
            ap (λ b. cond b ds (r.doings m)) e ∙ now.whole_is
            ∙ ap (λ (k : NodeId). r.doings k.0 ++ now.done.added) (sym same);
        no_post = now.done.no_post;
      }
  grown_at m false e = record { added = []; all = doings-else m e ∙ sym (append-nil (r.doings m)); no_post = refl }

  -- the node did more, and others nothing
  pub grown-alone : (m : ℕ) → HasGrown r later_record m
  grown-alone m = grown_at m (nat_eq m n.0) refl

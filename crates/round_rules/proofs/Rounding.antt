-- The record after the turns of all stations.
use Rattle.std.proofs.Common.{◌≡◌, ℕ, Bool, true, false, cond, List, [], ◌++◌, filter, map, refl, sym, ap, ◌∙◌, subst, append-nil}
use Rattle.std.specs.List.{AllZip, Contains}
use Rattle.ason_base.specs.{Network.{IsTopology, Network, is_node_id}, declared.commands.Disturb.Disturb, declared.ids.NodeId.NodeId}
use Rattle.world_rules.specs.WorldRuns.{is_world_channel, neighbours_of}
use Rattle.world_merge.specs.{Histories.at, Logs.{is_posted, line_of, posts_of}}
use Rattle.station_rings.specs.LinkStates.{LinkState}
use Rattle.round_rules.specs.{Doings.{Doing, deeds_in}, Lines.says, OneWorker.ids_of, Records.{Record, deeds_at}, Moves.{HasMoved, IsDrained, AreApart, peers_of}, States.{IsStationOf, StationState}, Turned.{comes_to_end, is_at_limit, is_starved}, Fleets.{AreStanding, HasGrown, IsRecordNowhere, IsRingOf, IsStationAt, Wires}, FleetTurns.{AfterTurns, HasMadeRound}}
use Rattle.round_rules.proofs.{AllTurns.AllTurns, Choosing.{Beside, ThroughMiddle, Chosen, choose, zip-beside, zip-both, zip-equal, zip-from-map, zip-mapped, zip-more, zip-then}, Counting.{RingFacts, drops_over, facts-after}, Done.{FirstTurn, HaveDone, IsHalt, have-done, near-done}, Links.ends-stay, NoPosts.posts-more, Nodes.{JoinsNodes, among-ids, apart-ids, apart-near, joins-nodes, node-there}, OneTurn.TurnHasDone, Replacing.nowhere-kept, Wired.{ChannelEnds, channel-ends, link-count, link-peer, link-taken, peers-near}}

-- what a node did, and its links, by the number of the neighbour
abbrev pub NodePart : Type 0
NodePart = List Doing × (ℕ → LinkState)

-- What is so of a ring where the stations stand
pub ring-facts : (t : Network) (lines : List Disturb) (r : Record) (wires : Wires) (xs : List StationState) →
    AreStanding t lines r wires xs → (u d : NodeId) → is_world_channel t u d ≡ true →
    RingFacts t r u d (wires u.0 d.0) (wires d.0 u.0)
ring-facts t lines r wires xs all u d joined = record {
  count = link-count t lines r wires u e.sender e.sends d e.out;
  peer = link-peer t lines r wires d e.receiver e.receives u e.into;
  taken = link-taken t lines r wires d e.receiver e.receives u e.into;
  handed_over = o.handed_over;
  room = o.room;
  most = o.most;
  past = o.past;
}
  where
    e : ChannelEnds t lines r wires u d
    e = channel-ends t lines r wires xs all u d joined

    o : IsRingOf t r wires u d
    o = all.rings u d joined

module _ (t : Network) (lines : List Disturb) (r : Record) (wires : Wires) where
  -- one node's part after its turns
  pub record TurnedAt (n : NodeId) (y : AfterTurns) (a : NodePart) : Type 0 where
    pub done : TurnHasDone t lines n true (r.doings n.0) (neighbours_of t n) y.station y.end
    pub whole_is : a.0 ≡ r.doings n.0 ++ done.added
    pub links : y.station.links ≡ map (λ (u : NodeId). a.1 u.0) (neighbours_of t n)
    pub told : (u : NodeId) (k : ℕ) → says y.station.lines u n k ≡ says lines u n k
    pub moved : (u : NodeId) → Contains (neighbours_of t n) u → HasMoved (wires n.0 u.0) (a.1 u.0)
    pub drained : comes_to_end y.end ≡ true → (u : NodeId) → Contains (neighbours_of t n) u →
        IsDrained (wires n.0 u.0) (a.1 u.0)
    pub old : StationState
    pub was : IsStationAt t lines r wires n old
    pub first : comes_to_end y.end ≡ true → FirstTurn t n true (r.doings n.0) old y.station done.added
    pub halt : is_at_limit y.end ≡ true → IsHalt t lines n true (r.doings n.0) old y.station done.added
    pub turns : is_starved y.end ≡ false →
        AllTurns t n true (r.doings n.0) old y.station (is_at_limit y.end) done.added

module _ (t : Network) (lines : List Disturb) (r : Record) (wires : Wires) (many : ℕ) (valid : IsTopology t) where
  abbrev Row : NodeId → NodeId → LinkState → LinkState → Type 0
  Row n u l b = (b ≡ l) × HasMoved (wires n.0 u.0) l

  -- what the turns of a station make of its node's part
  pub one-turned : (n : NodeId) (y : AfterTurns) → ThroughMiddle (IsStationAt t lines r wires) (HasMadeRound many) n y →
      (a : NodePart) × TurnedAt t lines r wires n y a
  one-turned n y b = (
    (r.doings n.0 ++ h.done.added, row.choice),
    record {
      done =
          near-done t lines n true (r.doings n.0) (peers_of b.mid.links) (neighbours_of t n) y.station y.end near
          h.done;
      whole_is = refl;
      links =
          zip-equal (λ (u : NodeId). row.choice u.0) (neighbours_of t n) y.station.links
          (zip-more (λ u l. Row n u l (row.choice u.0)) (λ u l. l ≡ row.choice u.0) (λ u l g. sym g.0)
          (neighbours_of t n)
          y.station.links row.each);
      told = λ u k. ap (λ ls. says ls u n k) h.lines_kept ∙ b.one.told u k;
      moved = λ u there.
          let g = zip-beside (λ v l. Row n v l (row.choice v.0)) (neighbours_of t n) y.station.links u row.each there in
          subst (HasMoved (wires n.0 u.0)) (sym g.is.0) g.is.1;
      drained = λ e u there.
          let g = zip-beside (λ v l. Row n v l (row.choice v.0) × IsDrained (wires n.0 v.0) l) (neighbours_of t n)
          y.station.links u (zip-both (λ v l. Row n v l (row.choice v.0)) (λ v l. IsDrained (wires n.0 v.0) l)
          (neighbours_of t n) y.station.links row.each (drains e)) there in
          subst (IsDrained (wires n.0 u.0)) (sym g.is.0.0) g.is.1;
      old = b.mid;
      was = b.one;
      first = h.first;
      halt = h.halt;
      turns = h.turns;
    },
  )
    where
      near : peers_of b.mid.links ≡ neighbours_of t n
      near = peers-near t lines r wires n b.mid b.one

      h : HaveDone t lines n true (r.doings n.0) b.mid y.station y.end
      h =
          have-done t lines n many true (r.doings n.0) b.mid y.station y.end b.one.told b.one.station
          (subst AreApart (sym near) (apart-near t valid n)) b.two

      moves : AllZip (λ (u : NodeId) (l : LinkState). HasMoved (wires n.0 u.0) l) (neighbours_of t n) y.station.links
      moves =
          zip-from-map HasMoved (λ (u : NodeId). wires n.0 u.0) (neighbours_of t n) y.station.links
          (subst (λ ls. AllZip HasMoved ls y.station.links) b.one.links h.links)

      drains : comes_to_end y.end ≡ true →
          AllZip (λ (u : NodeId) (l : LinkState). IsDrained (wires n.0 u.0) l) (neighbours_of t n) y.station.links
      drains e =
          zip-from-map IsDrained (λ (u : NodeId). wires n.0 u.0) (neighbours_of t n) y.station.links
          (subst (λ ls. AllZip IsDrained ls y.station.links) b.one.links (h.drained e))

      row : Chosen (Row n) (neighbours_of t n) y.station.links (wires n.0)
      row =
          choose (Row n) (neighbours_of t n) y.station.links (wires n.0) (apart-near t valid n)
          (zip-more (λ u l. HasMoved (wires n.0 u.0) l) (λ u l. (b : LinkState) × Row n u l b) (λ u l m. (l, (refl, m)))
          (neighbours_of t n) y.station.links moves)

module _ (t : Network) (lines : List Disturb) (r : Record) (wires : Wires) (many : ℕ) (xs : List StationState)
    (ys : List AfterTurns) (all : AreStanding t lines r wires xs) (turned : AllZip (HasMadeRound many) xs ys) where
  abbrev pub first : ℕ → NodePart
  first m = (r.doings m, wires m)

  -- the parts of all nodes
  pub chosen : Chosen (TurnedAt t lines r wires) (ids_of t) ys first
  chosen =
      choose (TurnedAt t lines r wires) (ids_of t) ys first (apart-ids t all.valid)
      (zip-more (ThroughMiddle (IsStationAt t lines r wires) (HasMadeRound many))
      (λ n y. (a : NodePart) × TurnedAt t lines r wires n y a) (one-turned t lines r wires many all.valid) (ids_of t) ys
      (zip-then (IsStationAt t lines r wires) (HasMadeRound many) (ids_of t) xs ys all.each turned))

  abbrev pub wires-after : Wires
  wires-after m = (chosen.choice m).1

  -- the record after the turns
  abbrev pub after-turns : Record
  after-turns = record {
    doings = λ m. (chosen.choice m).0;
    dropped = λ u d. cond (is_world_channel t (at u) (at d)) (r.dropped u d ++ drops_over (wires u d) (wires-after u d))
        (r.dropped u d);
  }

  abbrev pub Now : NodeId → AfterTurns → Type 0
  Now n y = TurnedAt t lines r wires n y (chosen.choice n.0)

  -- the station of a node, with its part
  pub now-at : (n : NodeId) → is_node_id t.nodes n ≡ true → Beside Now ys n
  now-at n known = zip-beside Now (ids_of t) ys n chosen.each (node-there t n known)

  -- all of them
  pub now-all : AllZip Now (ids_of t) ys
  now-all = chosen.each

  -- elsewhere nothing is done
  pub elsewhere : (m : ℕ) → is_node_id t.nodes (at m) ≡ false → after-turns.doings m ≡ r.doings m
  elsewhere m none = ap (λ (a : NodePart). a.0) (chosen.others m (among-ids t (at m) ∙ none))

  -- the station of a node is that of what it did
  pub stands-now : (n : NodeId) (y : AfterTurns) → Now n y →
      IsStationAt t lines after-turns wires-after n y.station
  stands-now n y is = record {
    station = subst (λ ds. IsStationOf t n ds y.station) (sym is.whole_is) is.done.stands;
    links = is.links;
    told = is.told;
  }

  -- what is dropped on a channel
  pub dropped-now : (u d : NodeId) → is_world_channel t u d ≡ true →
      after-turns.dropped u.0 d.0 ≡ r.dropped u.0 d.0 ++ drops_over (wires u.0 d.0) (wires-after u.0 d.0)
  dropped-now u d joined =
      ap (λ b. cond b (r.dropped u.0 d.0 ++ drops_over (wires u.0 d.0) (wires-after u.0 d.0)) (r.dropped u.0 d.0))
      joined

  -- Of a channel: its two ends, before and after.
  pub record Moves (u d : NodeId) : Type 0 where
    pub sends : HasMoved (wires u.0 d.0) (wires-after u.0 d.0)
    pub takes : HasMoved (wires d.0 u.0) (wires-after d.0 u.0)
    pub before : RingFacts t r u d (wires u.0 d.0) (wires d.0 u.0)
    pub after : RingFacts t after-turns u d (wires-after u.0 d.0) (wires-after d.0 u.0)

  -- what turns make of the two ends of a channel
  pub moves : (u d : NodeId) → is_world_channel t u d ≡ true → Moves u d
  moves u d joined = record {
    sends = sends;
    takes = takes;
    before = before;
    after =
        facts-after t r after-turns u d (wires u.0 d.0) (wires d.0 u.0) (wires-after u.0 d.0) (wires-after d.0 u.0)
        before sends (link-count t lines after-turns wires-after u a.item.station (stands-now u a.item a.is) d e.out)
        (link-taken t lines after-turns wires-after d b.item.station (stands-now d b.item b.is) u e.into)
        (dropped-now u d joined) takes;
  }
    where
      e : ChannelEnds t lines r wires u d
      e = channel-ends t lines r wires xs all u d joined

      ends : JoinsNodes t u d
      ends = joins-nodes t u d joined

      a : Beside Now ys u
      a = now-at u ends.from

      b : Beside Now ys d
      b = now-at d ends.to

      sends : HasMoved (wires u.0 d.0) (wires-after u.0 d.0)
      sends = a.is.moved d e.out

      takes : HasMoved (wires d.0 u.0) (wires-after d.0 u.0)
      takes = b.is.moved u e.into

      before : RingFacts t r u d (wires u.0 d.0) (wires d.0 u.0)
      before = ring-facts t lines r wires xs all u d joined

  ring_now : (u d : NodeId) → is_world_channel t u d ≡ true → IsRingOf t after-turns wires-after u d
  ring_now u d joined =
      let m = moves u d joined in
      record {
        ends =
            ends-stay (wires u.0 d.0) (wires d.0 u.0) (wires-after u.0 d.0) (wires-after d.0 u.0)
            (all.rings u d joined).ends m.sends.ends m.takes.ends;
        handed_over = m.after.handed_over;
        room = m.after.room;
        most = m.after.most;
        past = m.after.past;
      }

  nowhere_now : (n : ℕ) → is_node_id t.nodes (at n) ≡ false → IsRecordNowhere t after-turns n
  nowhere_now n none =
      nowhere-kept t r after-turns n (elsewhere n none) (all.nowhere n none)

  posts_same : (n : ℕ) (b : Bool) → is_node_id t.nodes (at n) ≡ b →
      posts_of (at n) (deeds_at after-turns n) ≡ posts_of (at n) (deeds_at r n)
  posts_same n true known =
      let h = now-at (at n) known in
      ap (map (line_of (at n))) (ap (λ ds. filter is_posted (deeds_in ds)) h.is.whole_is
      ∙ posts-more (r.doings n) h.is.done.added
      ∙ ap (λ ds. filter is_posted (deeds_at r n) ++ ds) h.is.done.no_post
      ∙ append-nil (filter is_posted (deeds_at r n)))
  posts_same n false none = ap (λ ds. posts_of (at n) (deeds_in ds)) (elsewhere n none)

  -- the stations stand for it
  pub standing-after : AreStanding t lines after-turns wires-after (map (λ (y : AfterTurns). y.station) ys)
  standing-after = record {
    valid = all.valid;
    each =
        zip-mapped (IsStationAt t lines after-turns wires-after) (λ (y : AfterTurns). y.station) (ids_of t) ys
        (zip-more Now (λ n y. IsStationAt t lines after-turns wires-after n y.station) stands-now (ids_of t) ys
        now-all);
    rings = ring_now;
    nowhere = nowhere_now;
    posts = λ n. posts_same n (is_node_id t.nodes (at n)) refl ∙ all.posts n
        ∙ sym (posts_same 0 (is_node_id t.nodes (at 0)) refl);
  }

  -- each node did more
  grown_at : (m : ℕ) (b : Bool) → is_node_id t.nodes (at m) ≡ b → HasGrown r after-turns m
  grown_at m true known =
      let h = now-at (at m) known in
      record { added = h.is.done.added; all = h.is.whole_is; no_post = h.is.done.no_post }
  grown_at m false none =
      record { added = []; all = elsewhere m none ∙ sym (append-nil (r.doings m)); no_post = refl }

  -- each node did more, and posted nothing
  pub grown-now : (m : ℕ) → HasGrown r after-turns m
  grown-now m = grown_at m (is_node_id t.nodes (at m)) refl

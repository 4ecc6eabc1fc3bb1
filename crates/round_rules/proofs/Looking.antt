-- After looks the stations stand for the same record.
use Rattle.std.proofs.{Common.{◌≡◌, ◌≤◌, ◌+◌, ℕ, true, List, [], ◌∷◌, ◌++◌, length, map, refl, sym, ap, ◌∙◌, subst, arith, append-nil, append_assoc, inl, inr}, lemmas.List.{length-append, length-map}}
use Rattle.std.specs.{Prelude.◌⊎◌, List.{AllByRecursion, AllZip, Contains}}
use Rattle.ason_base.specs.{declared.limits.TheConstants.MOST_FRAMES, declared.ids.NodeId.NodeId, declared.commands.Disturb.Disturb, Network.Network}
use Rattle.rtrb.specs.Ring.{known_items, received}
use Rattle.ason_base.proofs.Members.{contains-head, contains-tail}
use Rattle.world_rules.specs.WorldRuns.{is_world_channel, neighbours_of}
use Rattle.station_rings.specs.{declared.parcel.Parcel.Parcel, Links.HasGot, LinkStates.{AreEnds, IsLooked, LinkState, gone_of, view_of}}
use Rattle.round_rules.specs.{Doings.Doing, Lines.says, OneWorker.ids_of, Records.Record, Rings.got_from, States.{IsTakenFrom, StationState, parcel_numbers}, Fleets.{AreStanding, IsRingOf, IsStationAt, Wires}, Looks.{AreLooked, AreStill, HasKept, HasLinks, KnownHaveBegun, LooksStand, LooksTell}}
use Rattle.round_rules.proofs.{PartStanding.listening-stands, Choosing.{ThroughMiddle, zip-both, zip-more, zip-then}, Counting.RingFacts, Nodes.channel-near, Rounding.ring-facts, Wired.link-taken}

-- A ring that was looked at is known.
pub looks-tell : LooksTell
looks-tell w v u d is =
    record { whole = is.there.whole ∙ sym is.there.gone; standing = is.there.standing }

-- What came out of a ring that is known is a first part of what was handed to it.
pub known-have-begun : KnownHaveBegun
known-have-begun w u d is = (known_items (w d.0 u.0).into, is.whole)

-- One link

looked_got : (a c b d : LinkState) → IsLooked a c b d → IsLooked b d a c → HasGot (view_of a) (view_of c)
looked_got a c b d there back = record {
  peer = there.peer;
  sent = there.sent;
  gone = there.gone;
  more = back.more;
  came = sym back.came;
}

still_got : (l : LinkState) → HasGot (view_of l) (view_of l)
still_got l = record { peer = refl; sent = refl; gone = refl; more = []; came = sym (append-nil (received l.into)) }

looked_taken : (ds : List Doing) (a c b d : LinkState) → IsLooked a c b d → IsLooked b d a c → IsTakenFrom ds b →
    IsTakenFrom ds d
looked_taken ds a c b d there back is = record {
  taken = is.taken;
  came =
      sym there.came ∙ ap (λ ps. ps ++ there.more) is.came ∙ append_assoc is.taken b.early there.more
      ∙ ap (λ ps. is.taken ++ ps) (sym there.early);
  numbers = is.numbers ∙ ap (λ (n : NodeId). got_from n ds) (sym back.peer);
}

-- All links of a node

all_got : (ns whole : List NodeId) (f g : ℕ → LinkState) → ((u : NodeId) → Contains ns u → Contains whole u) →
    ((u : NodeId) → Contains whole u → HasGot (view_of (f u.0)) (view_of (g u.0))) →
    AllZip HasGot (map view_of (map (λ (u : NodeId). f u.0) ns)) (map view_of (map (λ (u : NodeId). g u.0) ns))
all_got [] whole f g inside each = tt
all_got (n ∷ ns) whole f g inside each = (
  each n (inside n (contains-head n ns)),
  all_got ns whole f g (λ u there. inside u (contains-tail n u ns there)) each,
)

all_mapped : (P : LinkState → Type 0) (ns whole : List NodeId) (g : ℕ → LinkState) →
    ((u : NodeId) → Contains ns u → Contains whole u) → ((u : NodeId) → Contains whole u → P (g u.0)) →
    AllByRecursion P (map (λ (u : NodeId). g u.0) ns)
all_mapped P [] whole g inside each = tt
all_mapped P (n ∷ ns) whole g inside each = (
  each n (inside n (contains-head n ns)),
  all_mapped P ns whole g (λ u there. inside u (contains-tail n u ns there)) each,
)

module _ (t : Network) (lines : List Disturb) (r : Record) (w v : Wires) (xs ys : List StationState)
    (all : AreStanding t lines r w xs)
    (looks : (u d : NodeId) → is_world_channel t u d ≡ true → AreStill w v u d ⊎ AreLooked w v u d) where
  got_at : (n u : NodeId) → Contains (neighbours_of t n) u → HasGot (view_of (w n.0 u.0)) (view_of (v n.0 u.0))
  got_at n u near = elim (looks u n (channel-near t n u near)) [
    | inl still ↦ subst (λ (l : LinkState). HasGot (view_of (w n.0 u.0)) (view_of l)) (sym still.back)
        (still_got (w n.0 u.0))
    | inr is ↦ looked_got (w n.0 u.0) (v n.0 u.0) (w u.0 n.0) (v u.0 n.0) is.back is.there
  ]

  taken_at : (n : NodeId) (x : StationState) → IsStationAt t lines r w n x → (u : NodeId) →
      Contains (neighbours_of t n) u → IsTakenFrom (r.doings n.0) (v n.0 u.0)
  taken_at n x is u near = elim (looks u n (channel-near t n u near)) [
    | inl still ↦ subst (IsTakenFrom (r.doings n.0)) (sym still.back) (link-taken t lines r w n x is u near)
    | inr looked ↦ looked_taken (r.doings n.0) (w u.0 n.0) (v u.0 n.0) (w n.0 u.0) (v n.0 u.0) looked.there looked.back
        (link-taken t lines r w n x is u near)
  ]

  station_at : (n : NodeId) (x y : StationState) → IsStationAt t lines r w n x → HasKept x y → HasLinks t v n y →
      IsStationAt t lines r v n y
  station_at n x y is kept links = record {
    station = record {
      stands = listening-stands t n (r.doings n.0) _ _ is.station.stands (record {
        controller = kept.controller;
        desk = kept.desk;
        clock = kept.clock;
        log = kept.log;
        links =
            subst (λ ls. AllZip HasGot (map view_of x.links) (map view_of ls)) (sym links)
            (subst (λ ls. AllZip HasGot (map view_of ls)
            (map view_of (map (λ (u : NodeId). v n.0 u.0) (neighbours_of t n)))) (sym is.links)
            (all_got (neighbours_of t n) (neighbours_of t n) (w n.0) (v n.0) (λ u there. there) (got_at n)));
      }) kept.held;
      taken =
          subst (AllByRecursion (IsTakenFrom (r.doings n.0))) (sym links)
          (all_mapped (IsTakenFrom (r.doings n.0)) (neighbours_of t n) (neighbours_of t n) (v n.0) (λ u there. there)
          (taken_at n x is));
    };
    links = links;
    told = λ u k. ap (λ ls. says ls u n k) kept.lines ∙ is.told u k;
  }

  looked_ring : (u d : NodeId) → RingFacts t r u d (w u.0 d.0) (w d.0 u.0) → IsRingOf t r w u d → AreLooked w v u d →
      IsRingOf t r v u d
  looked_ring u d f o is = record {
    ends = is.ends;
    handed_over = ap parcel_numbers is.there.gone ∙ o.handed_over;
    room = omega (arith, long, same, stands, got);
    most = omega (arith, long, same, stands, got, before, most);
    past = subst (λ k. AllByRecursion (λ (j : ℕ). j ≤ k) (r.dropped u.0 d.0)) (sym is.there.sent) o.past;
  }
    where
      before : length (gone_of (w u.0 d.0)) ≤ (w u.0 d.0).standing + length (got_from u (r.doings d.0))
      before = o.room

      most : (w u.0 d.0).standing ≤ MOST_FRAMES
      most = o.most

      same : length (gone_of (v u.0 d.0)) ≡ length (gone_of (w u.0 d.0))
      same = ap length is.there.gone

      stands : (v u.0 d.0).standing ≡ length (v d.0 u.0).early + length (known_items (v d.0 u.0).into)
      stands = is.there.standing

      taken : IsTakenFrom (r.doings d.0) (v d.0 u.0)
      taken = looked_taken (r.doings d.0) (w u.0 d.0) (v u.0 d.0) (w d.0 u.0) (v d.0 u.0) is.there is.back f.taken

      got : length taken.taken ≡ length (got_from u (r.doings d.0))
      got =
          sym (length-map taken.taken (λ (p : Parcel). p.number)) ∙ ap length taken.numbers
          ∙ ap (λ (n : NodeId). length (got_from n (r.doings d.0))) (is.back.peer ∙ f.peer)

      long : length (gone_of (w u.0 d.0)) ≡
          (length taken.taken + length (v d.0 u.0).early) + length (known_items (v d.0 u.0).into)
      long =
          ap length (sym is.there.whole)
          ∙ length-append (received (v d.0 u.0).into) (known_items (v d.0 u.0).into)
          ∙ ap (λ k. k + length (known_items (v d.0 u.0).into)) (ap length taken.came
          ∙ length-append taken.taken (v d.0 u.0).early)

  ring_at : (u d : NodeId) → is_world_channel t u d ≡ true → IsRingOf t r v u d
  ring_at u d joined = elim (looks u d joined) [
    | inl still ↦ (let o = all.rings u d joined in record {
      ends =
          subst (λ l. AreEnds l (v d.0 u.0)) (sym still.there) (subst (AreEnds (w u.0 d.0)) (sym still.back) o.ends);
      handed_over = ap (λ (l : LinkState). parcel_numbers (gone_of l)) still.there ∙ o.handed_over;
      room =
          subst (λ (l : LinkState). length (gone_of l) ≤ l.standing + length (got_from u (r.doings d.0)))
          (sym still.there) o.room;
      most = subst (λ (l : LinkState). l.standing ≤ MOST_FRAMES) (sym still.there) o.most;
      past =
          subst (λ (l : LinkState). AllByRecursion (λ (j : ℕ). j ≤ l.sent) (r.dropped u.0 d.0)) (sym still.there)
          o.past;
    })
    | inr is ↦ looked_ring u d (ring-facts t lines r w xs all u d joined) (all.rings u d joined) is
  ]

-- After looks the stations stand for the same record.
pub looks-stand : LooksStand
looks-stand t lines r w v xs ys all kept links looks = record {
  valid = all.valid;
  each =
      zip-more (λ n y. ThroughMiddle (IsStationAt t lines r w) HasKept n y × HasLinks t v n y) (IsStationAt t lines r v)
      (λ n y h. station_at t lines r w v xs ys all looks n h.0.mid y h.0.one h.0.two h.1) (ids_of t) ys
      (zip-both (ThroughMiddle (IsStationAt t lines r w) HasKept) (HasLinks t v) (ids_of t) ys
      (zip-then (IsStationAt t lines r w) HasKept (ids_of t) xs ys all.each kept) links);
  rings = ring_at t lines r w v xs ys all looks;
  nowhere = all.nowhere;
  posts = all.posts;
}

-- A look at the rings between two stations, as one at those between their nodes.
use Rattle.std.proofs.{Common.{◌≡◌, ℕ, Bool, true, false, nat_eq, List, refl, sym, ap, ◌∙◌, subst, inl, inr}, lemmas.Bool.and_parts}
use Rattle.std.specs.{Prelude.{◌&&◌, ◌⊎◌, Some, slice_get, slice_set}, List.AllZip}
use Rattle.ason_base.specs.{declared.ids.NodeId.NodeId, Network.{IsTopology, Network}}
use Rattle.ason_base.proofs.{Numbers.apart-turned, Bridges.same_node}
use Rattle.world_rules.specs.WorldRuns.{is_world_channel, neighbours_of}
use Rattle.station_rings.specs.LinkStates.{AreEnds, IsLooked, LinkState}
use Rattle.round_rules.specs.{OneWorker.ids_of, States.StationState, Fleets.Wires, Looks.{AreLooked, AreStill, HasKept, HasLinks}}
use Rattle.station.specs.Joined.{with_link_at}
use Rattle.round_rules.proofs.Nodes.{apart-ids, joins-nodes}
use Rattle.fleet.specs.{declared.seats.End.End, Looks.{HaveLooked, HaveMet, IsLinkOfStation}}
use Rattle.fleet.proofs.{Places.{get-set-elsewhere, places-differ, zip-at, zip-set, zip-twice}, Seated.{IsLed, link-near, near-channel}, Wires.{put, put-else, put-here, put-links, put-node}}

pub kept-self : (s : StationState) → HasKept s s
kept-self s = record { controller = refl; desk = refl; clock = refl; log = refl; held = refl; lines = refl }

pub kept-twice : (a b c : StationState) → HasKept a b → HasKept b c → HasKept a c
kept-twice a b c p q = record {
  controller = q.controller ∙ p.controller;
  desk = q.desk ∙ p.desk;
  clock = q.clock ∙ p.clock;
  log = q.log ∙ p.log;
  held = q.held ∙ p.held;
  lines = q.lines ∙ p.lines;
}

kept_link : (a : StationState) (link : ℕ) (l : LinkState) → HasKept a (with_link_at a link l)
kept_link a link l = record { controller = refl; desk = refl; clock = refl; log = refl; held = refl; lines = refl }

-- the links between two nodes, by other names
are_looked : (w v : Wires) (u d : NodeId) (a b x y : LinkState) → a ≡ w u.0 d.0 → b ≡ w d.0 u.0 → x ≡ v u.0 d.0 →
    y ≡ v d.0 u.0 → AreEnds x y → IsLooked a x b y → IsLooked b y a x → AreLooked w v u d
are_looked w v u d a b x y p q f g ends there back = record {
  ends = subst (λ k. AreEnds k (v d.0 u.0)) f (subst (λ k. AreEnds x k) g ends);
  there =
      subst (λ k. IsLooked k (v u.0 d.0) (w d.0 u.0) (v d.0 u.0)) p
      (subst (λ k. IsLooked a k (w d.0 u.0) (v d.0 u.0)) f
      (subst (λ k. IsLooked a x k (v d.0 u.0)) q (subst (λ k. IsLooked a x b k) g there)));
  back =
      subst (λ k. IsLooked k (v d.0 u.0) (w u.0 d.0) (v u.0 d.0)) q
      (subst (λ k. IsLooked b k (w u.0 d.0) (v u.0 d.0)) g
      (subst (λ k. IsLooked b y k (v u.0 d.0)) p (subst (λ k. IsLooked b y a k) f back)));
}

-- it is a look from either end
pub looked-back : (w v : Wires) (u d : NodeId) → AreLooked w v u d → AreLooked w v d u
looked-back w v u d is = record {
  ends = record {
    there = is.ends.back;
    back = is.ends.there;
    wide = is.ends.wide_back;
    wide_back = is.ends.wide;
  };
  there = is.back;
  back = is.there;
}

and_turned : (a b : Bool) → (a && b) ≡ (b && a)
and_turned true true = refl
and_turned true false = refl
and_turned false true = refl
and_turned false false = refl

-- The look at the ends of one link, whatever the links are called.
module _ (t : Network) (old now : List StationState) (place link : ℕ) (e : End) (valid : IsTopology t)
    (is : IsLed t place link e) (met : HaveMet place link e old now) (w : Wires)
    (links : AllZip (HasLinks t w) (ids_of t) old) where
  abbrev n : NodeId
  n = is.node

  abbrev u : NodeId
  u = is.peer

  abbrev near : LinkState
  near = met.looked.new

  abbrev far : LinkState
  far = met.looked.new_back

  abbrev first : Wires
  first = put w n u near

  abbrev last : Wires
  last = put first u n far

  other : nat_eq n.0 u.0 ≡ false
  other = (joins-nodes t n u (near-channel t n u link is.near)).other

  has : HasLinks t w n met.here
  has = zip-at (HasLinks t w) (ids_of t) old place n met.here links is.at met.is_here

  has_back : HasLinks t w u met.there
  has_back = zip-at (HasLinks t w) (ids_of t) old e.station u met.there links is.end.station met.is_there

  was : met.looked.old ≡ w n.0 u.0
  was = cc (met.looked.was, link-near t w n u met.here link has is.near)

  was_back : met.looked.old_back ≡ w u.0 n.0
  was_back = cc (met.looked.was_back, link-near t w u n met.there e.link has_back is.end.link)

  is_far : far ≡ last u.0 n.0
  is_far = sym (put-here first u n far)

  is_near : near ≡ last n.0 u.0
  is_near = sym (put-node first u n far n.0 u.0 other ∙ put-here w n u near)

  looked : AreLooked w last n u
  looked =
      are_looked w last n u met.looked.old met.looked.old_back near far was was_back is_near is_far met.looked.ends
      met.looked.looked met.looked.looked_back

  abbrev after_first : List StationState
  after_first = slice_set old place (with_link_at met.here link near)

  first_links : AllZip (HasLinks t first) (ids_of t) after_first
  first_links = put-links t w n u near link met.here valid is.near (ids_of t) old place (apart-ids t valid) links is.at
      met.is_here

  still_there : slice_get after_first e.station ≡ Some met.there
  still_there =
      get-set-elsewhere old place e.station (with_link_at met.here link near)
      (apart-turned place e.station (places-differ (ids_of t) place e.station n u is.at is.end.station other))
      ∙ met.is_there

  abbrev after_last : List StationState
  after_last = slice_set after_first e.station (with_link_at met.there e.link far)

  last_links : AllZip (HasLinks t last) (ids_of t) after_last
  last_links = put-links t first u n far e.link met.there valid is.end.link (ids_of t) after_first e.station
      (apart-ids t valid) first_links is.end.station still_there

  kept : AllZip HasKept old after_last
  kept =
      zip-twice HasKept kept-twice old after_first after_last
      (zip-set HasKept kept-self old place met.here (with_link_at met.here link near) met.is_here
      (kept_link met.here link near))
      (zip-set HasKept kept-self after_first e.station met.there (with_link_at met.there e.link far) still_there
      (kept_link met.there e.link far))

  are : now ≡ after_last
  are =
      met.stations
      ∙ ap (λ s. slice_set (slice_set old place s) e.station met.there_now) met.looked.here
      ∙ ap (slice_set after_first e.station) met.looked.there

  untouched : (a b : ℕ) → (nat_eq a n.0 && nat_eq b u.0) ≡ false → (nat_eq a u.0 && nat_eq b n.0) ≡ false →
      last a b ≡ w a b
  untouched a b p q = put-else first u n far a b q ∙ put-else w n u near a b p

  way : (x y : NodeId) → is_world_channel t x y ≡ true → AreStill w last x y ⊎ AreLooked w last x y
  way x y channel = go (nat_eq x.0 n.0 && nat_eq y.0 u.0) refl (nat_eq x.0 u.0 && nat_eq y.0 n.0) refl
    where
      go : (b : Bool) → (nat_eq x.0 n.0 && nat_eq y.0 u.0) ≡ b → (c : Bool) →
          (nat_eq x.0 u.0 && nat_eq y.0 n.0) ≡ c → AreStill w last x y ⊎ AreLooked w last x y
      go true p c q =
          let h = and_parts (nat_eq x.0 n.0) (nat_eq y.0 u.0) p in
          inr (subst (λ k. AreLooked w last k y) (sym (same_node x n h.0))
          (subst (λ k. AreLooked w last n k) (sym (same_node y u h.1)) looked))
      go false p true q =
          let h = and_parts (nat_eq x.0 u.0) (nat_eq y.0 n.0) q in
          inr (subst (λ k. AreLooked w last k y) (sym (same_node x u h.0))
          (subst (λ k. AreLooked w last u k) (sym (same_node y n h.1)) (looked-back w last n u looked)))
      go false p false q = inl (record {
        there = untouched x.0 y.0 p q;
        back = untouched y.0 x.0 (and_turned (nat_eq y.0 n.0) (nat_eq x.0 u.0) ∙ q)
            (and_turned (nat_eq y.0 u.0) (nat_eq x.0 n.0) ∙ p);
      })

  seen : (x y : NodeId) → is_world_channel t x y ≡ true → IsLinkOfStation place link t x y → AreLooked w last x y
  seen x y channel at =
      let from : n ≡ x = cc (is.at, at.node) in
      let near_x : slice_get (neighbours_of t n) link ≡ Some y =
      subst (λ k. slice_get (neighbours_of t k) link ≡ Some y) (sym from) at.near in
      let to : u ≡ y = cc (is.near, near_x) in
      subst (λ k. AreLooked w last k y) from (subst (λ k. AreLooked w last n k) to looked)

  pub have-looked : HaveLooked t w old now (IsLinkOfStation place link t)
  have-looked = record {
    wires_now = last;
    kept = subst (AllZip HasKept old) (sym are) kept;
    links = subst (AllZip (HasLinks t last) (ids_of t)) (sym are) last_links;
    ways = way;
    seen = seen;
  }

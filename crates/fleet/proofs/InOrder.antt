-- One station makes its turns, between looks at its rings.
use Rattle.std.proofs.Common.{◌≡◌, ℕ, zero, suc, Bool, true, false, nat_eq, List, [], ◌∷◌, ◌++◌, take, refl, sym, ap, ◌∙◌, subst, append_assoc, inl, inr}
use Rattle.std.specs.{Prelude.{Some, Option, slice_get, slice_set}, List.AllZip}
use Rattle.ason_base.specs.{declared.ids.NodeId.NodeId, declared.commands.Disturb.Disturb, Network.Network}
use Rattle.flood.proofs.Members.{place_of}
use mathlib.Core.List.{IsPrefix}
use Rattle.rtrb.specs.Ring.{received}
use Rattle.ason_base.proofs.Bridges.{same_node}
use Rattle.hop_reliable.proofs.Members.{take_next}
use Rattle.world_rules.specs.WorldRuns.{is_world_channel, neighbours_of}
use Rattle.station_rings.specs.LinkStates.{LinkState, gone_of}
use Rattle.round_rules.specs.{States.StationState, Turned.comes_to_end, OneWorker.ids_of, Records.Record, Fleets.{AreStanding, HasBegun, HasGrown, IsStationAt, Wires, AllBegun}, Looks.HasLinks, FleetOneWorker.{HasTurnedAlone, IsKnownAround, IsPlaced, IsUnderWay}}
use Rattle.round_rules.proofs.{Nodes.{channel-back, joins-nodes, near-there, node-there}, NoPosts.posts-append}
use Rattle.fleet.specs.{declared.fleet.RoundFault.RoundFault, declared.seats.Seat.Seat, Looks.{HaveLooked, IsAround}, RoundLaws.RoundLaws, Standing.AreSeats, Turning.TurnsAt}
use Rattle.fleet.proofs.{Answered.seat-id, Connected.{standing-connected, standing-links}, OnThreads.after-turns, Places.{get-map, zip-at, zip-get}}

-- the node at a place is the next one
next_at : (ns : List NodeId) (place : ℕ) (n : NodeId) → slice_get ns place ≡ Some n →
    (later : List NodeId) × (ns ≡ take place ns ++ n ∷ later)
next_at [] place n at = absurd (cc (at))
next_at (m ∷ ns) zero n at = (ns, ap (λ k. k ∷ ns) (cc (at)))
next_at (m ∷ ns) (suc place) n at =
    let rest = next_at ns place n at in
    (rest.0, ap (λ ks. m ∷ ks) rest.1)

pub grown-twice : (a b c : Record) (m : ℕ) → HasGrown a b m → HasGrown b c m → HasGrown a c m
grown-twice a b c m p q = record {
  added = p.added ++ q.added;
  all = q.all ∙ ap (λ ds. ds ++ q.added) p.all ∙ append_assoc (a.doings m) p.added q.added;
  no_post = posts-append p.added q.added p.no_post q.no_post;
}

still_begun : (w v : Wires) (u d : NodeId) → v u.0 d.0 ≡ w u.0 d.0 → v d.0 u.0 ≡ w d.0 u.0 → HasBegun w u d →
    HasBegun v u d
still_begun w v u d there back begun =
    subst (λ (l : LinkState). IsPrefix (received l.into) (gone_of (v u.0 d.0))) (sym back)
    (subst (λ (l : LinkState). IsPrefix (received (w d.0 u.0).into) (gone_of l)) (sym there) begun)

-- The station of the node n makes its turns while a round is under way.
module _ (t : Network) (lines : List Disturb) (seats : List Seat) (r : Record) (place stride : ℕ)
    (xs zs : List StationState) (answer : Option RoundFault) (laws : RoundLaws) (are : AreSeats t seats) (q : Record)
    (w : Wires) (way : IsUnderWay t lines r (take place (ids_of t)) q w xs)
    (is : TurnsAt seats place stride xs zs answer) where
  abbrev ns : List NodeId
  ns = take place (ids_of t)

  abbrev n : NodeId
  n = is.seat.id

  abbrev ys : List StationState
  ys = slice_set is.looked place is.after

  at : slice_get (ids_of t) place ≡ Some is.seat.id
  at = seat-id t seats place is.seat are is.seated

  pub one : HaveLooked t w xs is.looked (IsAround place t)
  one =
      is.first t (standing-connected t lines seats q w xs are way.stands) w
      (standing-links t lines q w xs way.stands)

  abbrev v : Wires
  v = one.wires_now

  way_looked : IsUnderWay t lines r (take place (ids_of t)) q one.wires_now is.looked
  way_looked = laws.looks t lines r ns q w v xs is.looked way one.kept one.links one.ways

  known : IsKnownAround t one.wires_now is.seat.id
  known = record {
    into = λ u channel. laws.tells w v u n (one.seen u n channel (inr at));
    out = λ d channel. laws.tells w v n d (one.seen n d channel (inl at));
  }

  pub station-before : IsStationAt t lines q one.wires_now is.seat.id is.before
  station-before = zip-at (IsStationAt t lines q v) (ids_of t) is.looked place n is.before way_looked.stands.each at
      is.there

  placed : AllZip (IsPlaced t lines q one.wires_now is.seat.id is.after) (ids_of t) (slice_set is.looked place is.after)
  placed = laws.placed t lines q v is.looked place n is.after way_looked.stands at

  pub alone : HasTurnedAlone t lines r q (take place (ids_of t)) is.seat.id (after-turns is.after)
      (slice_set is.looked place is.after)
  alone =
      laws.node t lines r ns q v is.looked n is.before stride (after-turns is.after) ys way_looked
      (next_at (ids_of t) place n at) known station-before is.turns placed

  pub two : HaveLooked t alone.wires_after (slice_set is.looked place is.after) zs (IsAround place t)
  two =
      is.second t (standing-connected t lines seats alone.after alone.wires_after ys are alone.stands) alone.wires_after
      (standing-links t lines alone.after alone.wires_after ys alone.stands)

  -- the links of other nodes are as they were
  other_links : (u d : NodeId) → is_world_channel t u d ≡ true → nat_eq u.0 is.seat.id.0 ≡ false →
      alone.wires_after u.0 d.0 ≡ one.wires_now u.0 d.0
  other_links u d channel other =
      let place_u = place_of (ids_of t) u (node-there t u (joins-nodes t u d channel).from) in
      let near = place_of (neighbours_of t u) d (near-there t u d (channel-back t u d channel)) in
      let s = zip-get (IsPlaced t lines q v n is.after) (ids_of t) ys place_u.0 u placed place_u.1 in
      let before = ap (λ ls. slice_get ls near.0) (s.2.1 other).links
      ∙ get-map (λ (k : NodeId). v u.0 k.0) (neighbours_of t u) near.0 d near.1 in
      let after = ap (λ ls. slice_get ls near.0) (zip-at (HasLinks t alone.wires_after) (ids_of t) ys place_u.0 u s.0
      (standing-links t lines alone.after alone.wires_after ys alone.stands) place_u.1 s.1)
      ∙ get-map (λ (k : NodeId). alone.wires_after u.0 k.0) (neighbours_of t u) near.0 d near.1 in
      cc (before, after)

  pub begun-turned : AllBegun t alone.wires_after
  begun-turned u d channel = go (nat_eq u.0 n.0) refl (nat_eq d.0 n.0) refl
    where
      go : (b : Bool) → nat_eq u.0 is.seat.id.0 ≡ b → (c : Bool) → nat_eq d.0 is.seat.id.0 ≡ c →
          HasBegun alone.wires_after u d
      go true e c f =
          laws.had_begun alone.wires_after two.wires_now u d (two.seen u d channel
          (inl (at ∙ ap Some (sym (same_node u n e)))))
      go false e true f =
          laws.had_begun alone.wires_after two.wires_now u d (two.seen u d channel
          (inr (at ∙ ap Some (sym (same_node d n f)))))
      go false e false f =
          still_begun v alone.wires_after u d (other_links u d channel e)
          (other_links d u (channel-back t u d channel) f) (way_looked.begun u d channel)

  pub stands-now : AreStanding t lines alone.after two.wires_now zs
  stands-now =
      laws.stands t lines alone.after alone.wires_after two.wires_now ys zs alone.stands two.kept two.links two.ways

  pub begun-now : AllBegun t two.wires_now
  begun-now u d channel = elim (two.ways u d channel) [
    | inl still ↦ still_begun alone.wires_after two.wires_now u d still.there still.back (begun-turned u d channel)
    | inr looked ↦ laws.begun two.wires_now u d (laws.tells alone.wires_after two.wires_now u d looked)
  ]

  -- where all turns came to their end the round goes on
  pub goes-on : comes_to_end is.after.answer ≡ true →
      IsUnderWay t lines r (take (suc place) (ids_of t)) alone.after two.wires_now zs
  goes-on ends =
      subst (λ ks. IsUnderWay t lines r ks alone.after two.wires_now zs) (sym (take_next (ids_of t) place n at))
      (laws.looks t lines r (ns ++ n ∷ []) alone.after alone.wires_after two.wires_now ys zs
      (alone.goes_on (λ u channel. begun-turned u n channel) ends) two.kept two.links two.ways)

-- A line that names a frame, and bytes that spell nothing, at a fleet that stands for a record.
use Rattle.std.proofs.Common.{◌≡◌, ◌+◌, ◌^◌, ◌≤◌, ℕ, Bool, true, false, nat_eq, List, [], ◌∷◌, ◌++◌, length, refl, sym, eqb-true, ap, ◌∙◌, cond, subst}
use Rattle.std.specs.{Prelude.{Some, is_some, position, slice_get, slice_set}, List.AllZip}
use Rattle.ason_base.specs.{declared.ids.NodeId.NodeId, declared.commands.Disturb.Disturb, Network.{IsTopology, Network}}
use Rattle.ason_base.proofs.{Numbers.{apart-turned, self-number}, Places.length-set, Bridges.same_node}
use Rattle.world_rules.specs.{WorldRuns.is_world_channel, Worlds.World}
use Rattle.world_merge.specs.Deeds.{Heard}
use Rattle.round_rules.specs.{Doings.Did, Functions.clock_of, Lines.says, OneWorker.ids_of, Records.Record, Rings.count_of, States.{IsStationOf, StationState}, Commands.{StandNoised, TakesLine, named, noised}, Fleets.IsStationAt, FleetOneWorker.IsPlaced}
use Rattle.station.specs.Noise.{HasHeard}
use Rattle.round_rules.proofs.{Assembling.noise-is-a-step, Naming.lines-stand-for, Nodes.{apart-ids, joins-nodes, near-there}, Noising.{noise-stands-for, posts-in-noised}, Replacing.zip-places}
use Rattle.fleet.specs.{Commands.{Noises, is_seat}, Noises.{HasLine, Hears, sent_on}, Standing.{AreSeats, FleetState, KeepsRest, StandsFor}}
use Rattle.fleet.proofs.{Channels.{IsLinkTo, IsSeated, link-to, seated, sent-is-count}, Finding.seat-found, News.get-set, Places.{apart-places, get-set-elsewhere, one-place}}

-- one station of the list is another
pub record IsAnother (n : NodeId) (new : StationState) (m : NodeId) (x y : StationState) : Type 0 where
  pub here : nat_eq m.0 n.0 ≡ true → y ≡ new
  pub else : nat_eq m.0 n.0 ≡ false → y ≡ x

another : (t : Network) → IsTopology t → (xs : List StationState) (place : ℕ) (n : NodeId) (new : StationState) →
    slice_get (ids_of t) place ≡ Some n → (k : ℕ) (m : NodeId) (x y : StationState) → slice_get (ids_of t) k ≡ Some m →
    slice_get xs k ≡ Some x → slice_get (slice_set xs place new) k ≡ Some y → IsAnother n new m x y
another t valid xs place n new at k m x y node was is = go (nat_eq k place) refl
  where
    go : (b : Bool) → nat_eq k place ≡ b → IsAnother n new m x y
    go true e =
        let same : k ≡ place = eqb-true k place e in
        let mine : m ≡ n = cc (node, at, same) in
        record {
          here = λ h. get-set xs place new y (subst (λ j. slice_get (slice_set xs place new) j ≡ Some y) same is);
          else = λ h. absurd (cc (h, ap (λ (v : NodeId). nat_eq v.0 n.0) mine, self-number n.0));
        }
    go false e =
        let other : nat_eq m.0 n.0 ≡ false = apart-places (ids_of t) (apart-ids t valid) k place m n node at e in
        record {
          here = λ h. absurd (cc (h, other));
          else = λ h. cc (is, get-set-elsewhere xs place k new e, was);
        }

-- A line

-- the line has the number of a frame on its channel
pub line-stands : (t : Network) (lines : List Disturb) (d : Disturb) (r : Record) (old new : FleetState) (k place : ℕ) →
    StandsFor t lines old r → is_world_channel t d.from d.to ≡ true →
    sent_on old.seats old.stations d.from d.to ≡ Some k →
    position (is_seat d.to) old.seats ≡ Some place →
    HasLine (record d { k = k + d.k }) place old.stations new.stations → new.seats ≡ old.seats → KeepsRest old new →
    StandsFor t (lines ++ named t r d ∷ []) new r
line-stands t lines d r old new k place s joined sent seat has seats rest = record {
  seats = subst (AreSeats t) (sym seats) s.seats;
  wires = s.wires;
  stations =
      lines-stand-for t lines (named t r d) r s.wires old.stations new.stations s.stations
      (ap length has.stations ∙ length-set old.stations place after) takes;
  begun = s.begun;
  posts = rest.posts ∙ s.posts;
  follow = s.follow;
  few = subst (λ ps. length ps ≤ 2 ^ 32) (sym rest.posts) s.few;
  network = rest.network ∙ s.network;
  failed = rest.failed ∙ s.failed;
}
  where
    count : k ≡ count_of t r d.from d.to
    count = cc (sent, sent-is-count t lines old r s d.from d.to joined)

    after : StationState
    after = record has.before { lines = has.before.lines ++ record d { k = k + d.k } ∷ [] }

    node : slice_get (ids_of t) place ≡ Some d.to
    node = seat-found t old.seats d.to place s.seats seat

    takes : (i : ℕ) (n : NodeId) (x y : StationState) → slice_get (ids_of t) i ≡ Some n →
        slice_get old.stations i ≡ Some x → slice_get new.stations i ≡ Some y → TakesLine (named t r d) n x y
    takes i n x y at was is = record {
      there = λ h.
          (let mine : d.to ≡ n = same_node d.to n h in
          let here : place ≡ i =
          one-place (ids_of t) (apart-ids t s.stations.valid) place i n (node ∙ ap Some mine) at in
          let first : has.before ≡ x = cc (has.there, was, here) in
          get-set old.stations place after y
          (subst (λ j. slice_get (slice_set old.stations place after) j ≡ Some y) (sym here)
          (ap (λ xs. slice_get xs i) (sym has.stations) ∙ is))
          ∙ (λ j. record (first j) { lines = (first j).lines ++ record d { k = count j + d.k } ∷ [] }));
      others = λ h.
          (let turned : nat_eq n.0 d.to.0 ≡ false = apart-turned d.to.0 n.0 h in
          (another t s.stations.valid old.stations place d.to after node i n x y at was
          (ap (λ xs. slice_get xs i) (sym has.stations) ∙ is)).else turned);
    }

-- Noise

-- bytes come to a station of a fleet
pub noise-stands : (u d : NodeId) (bytes : List ℕ) (old new : FleetState) (place : ℕ) (x y : StationState) →
    is_world_channel old.network u d ≡ true → position (is_seat d) old.seats ≡ Some place →
    slice_get old.stations place ≡ Some x → Hears u bytes x y → new.stations ≡ slice_set old.stations place y →
    new.seats ≡ old.seats → KeepsRest old new → Noises u d bytes old new
noise-stands u d bytes old new place x y near seat there hears stations seats rest t lines r s = record {
  seats = subst (AreSeats t) (sym seats) s.seats;
  wires = s.wires;
  stations = both.stands;
  begun = s.begun;
  posts =
      rest.posts ∙ s.posts ∙ sym (posts-in-noised t lines u d bytes r s.wires old.stations s.stations joined);
  follow = both.follow;
  few = subst (λ ps. length ps ≤ 2 ^ 32) (sym rest.posts) s.few;
  network = rest.network ∙ s.network;
  failed = rest.failed ∙ s.failed ∙ sym (ap (λ (w : World). w.failed) (noise-is-a-step t u d bytes r));
}
  where
    joined : is_world_channel t u d ≡ true
    joined = ap (λ (k : Network). is_world_channel k u d) (sym s.network) ∙ near

    node : slice_get (ids_of t) place ≡ Some d
    node = seat-found t old.seats d place s.seats seat

    at : IsSeated t lines r s.wires old.seats old.stations d
    at = seated t lines r s.wires old.seats old.stations s.seats s.stations d (joins-nodes t u d joined).to

    is : IsStationAt t lines r s.wires d x
    is =
        let here : at.place ≡ place = cc (at.found, seat) in
        let same : at.station ≡ x = cc (at.there, there, here) in
        subst (IsStationAt t lines r s.wires d) same at.is

    link : IsLinkTo s.wires d u x
    link = link-to t lines r s.wires d x is u (near-there t d u joined)

    heard : HasHeard u bytes x y
    heard = hears (ap is_some link.found)

    later : Record
    later = noised u d bytes r

    did : later.doings d.0 ≡ r.doings d.0 ++ Did (Heard (clock_of (r.doings d.0) + 1) u bytes) ∷ []
    did =
        ap (λ b. cond b (r.doings d.0 ++ Did (Heard (clock_of (r.doings d.0) + 1) u bytes) ∷ []) (r.doings d.0))
        (self-number d.0)

    now : IsStationAt t lines later s.wires d y
    now = record {
      station = subst (λ ds. IsStationOf t d ds y) (sym did) (heard.stands t d (r.doings d.0) is.station);
      links = heard.links ∙ is.links;
      told = λ v k. ap (λ ls. says ls v d k) heard.lines ∙ is.told v k;
    }

    placed : AllZip (IsPlaced t lines r s.wires d y) (ids_of t) new.stations
    placed =
        zip-places (IsStationAt t lines r s.wires) (IsAnother d y) (IsPlaced t lines r s.wires d y) (ids_of t)
        (λ m a b inside before an.
        (an.here, λ h. subst (IsStationAt t lines r s.wires m) (sym (an.else h)) before)) (ids_of t) old.stations
        new.stations (λ m inside. inside) s.stations.each
        (ap length stations ∙ length-set old.stations place y)
        (λ i m a b at_i was is_b. another t s.stations.valid old.stations place d y node i m a b at_i was
        (ap (λ xs. slice_get xs i) (sym stations) ∙ is_b))

    both : StandNoised t lines u d bytes r s.wires new.stations
    both =
        noise-stands-for t lines u d bytes r s.wires old.stations y new.stations s.stations s.follow joined now placed

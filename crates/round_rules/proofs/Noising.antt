-- A station that heard noise stands for the record with it, and the others do.
use Rattle.std.proofs.Common.{◌≡◌, ℕ, Bool, true, false, cond, nat_eq, List, [], ◌∷◌, ◌++◌, filter, length, map, refl, sym, ap, ◌∙◌, subst, append-nil}
use Rattle.std.specs.{Prelude.◌+◌, List.AllZip}
use Rattle.ason_base.specs.{declared.ids.NodeId.NodeId, declared.commands.Disturb.Disturb, Network.{Network, is_node_id}}
use Rattle.ason_base.proofs.Bridges.{same_node}
use Rattle.world_rules.specs.{WorldRuns.is_world_channel, Worlds.World}
use Rattle.world_merge.specs.{Deeds.{Heard, alone}, Histories.at, Logs.{is_posted, line_of, posts_of}}
use Rattle.round_rules.specs.{Doings.{Did, Doing, deeds_in}, Functions.clock_of, OneWorker.ids_of, Records.{Record, deeds_at, posts_in}, Rings.{count_of, got_from}, States.{IsStationOf, StationState}, Commands.{NoiseStandsFor, noised}, Fleets.{AreStanding, HasGrown, IsRecordNowhere, IsRingOf, IsStationAt, Wires}, FleetOneWorker.IsPlaced}
use Rattle.round_rules.proofs.{Numbers.got-append, Assembling.alone-did, Choosing.zip-more, Filling.posts-still-follow, NoPosts.posts-more, Nodes.joins-nodes, Replacing.{nowhere-kept, ring-kept}}

module _ (t : Network) (lines : List Disturb) (u d : NodeId) (bytes : List ℕ) (r : Record) (w : Wires)
    (xs : List StationState) (all : AreStanding t lines r w xs) (joined : is_world_channel t u d ≡ true) where
  abbrev deed : Doing
  deed = Did (Heard (clock_of (r.doings d.0) + 1) u bytes)

  abbrev later : Record
  later = noised u d bytes r

  -- what a node did, by whether it is this one
  doings_at : (n : ℕ) (b : Bool) → nat_eq n d.0 ≡ b → later.doings n ≡ cond b (r.doings n ++ deed ∷ []) (r.doings n)
  doings_at n true e =
      ap (λ b. cond b (r.doings d.0 ++ deed ∷ []) (r.doings n)) e
      ∙ ap (λ (k : NodeId). r.doings k.0 ++ deed ∷ []) (sym (same_node (at n) d e))
  doings_at n false e = ap (λ b. cond b (r.doings d.0 ++ deed ∷ []) (r.doings n)) e

  -- Stations

  station : (new : StationState) → IsStationAt t lines later w d new → (n : NodeId) (s : StationState) →
      IsPlaced t lines r w d new n s → IsStationAt t lines later w n s
  station new is n s placed = go (nat_eq n.0 d.0) refl
    where
      go : (b : Bool) → nat_eq n.0 d.0 ≡ b → IsStationAt t lines later w n s
      go true e =
          subst (λ (k : NodeId). IsStationAt t lines later w k s) (sym (same_node n d e))
          (subst (IsStationAt t lines later w d) (sym (placed.0 e)) is)
      go false e =
          let was = placed.1 e in
          record {
            station = subst (λ ds. IsStationOf t n ds s) (sym (doings_at n.0 false e)) was.station;
            links = was.links;
            told = was.told;
          }

  -- Rings

  ring : (a b : NodeId) → is_world_channel t a b ≡ true → IsRingOf t later w a b
  ring a b near = ring-kept t r later w a b (all.rings a b near) refl (count (nat_eq a.0 d.0) refl)
      (got (nat_eq b.0 d.0) refl)
    where
      count : (c : Bool) → nat_eq a.0 d.0 ≡ c → count_of t later a b ≡ count_of t r a b
      count true e =
          ap (λ ds. length ((alone t a (deeds_in ds)).channels a.0 b.0)) (doings_at a.0 true e)
          ∙ ap (λ (v : World). length (v.channels a.0 b.0))
          (alone-did t a (r.doings a.0) (Heard (clock_of (r.doings d.0) + 1) u bytes))
      count false e = ap (λ ds. length ((alone t a (deeds_in ds)).channels a.0 b.0)) (doings_at a.0 false e)

      got : (c : Bool) → nat_eq b.0 d.0 ≡ c → got_from a (later.doings b.0) ≡ got_from a (r.doings b.0)
      got true e =
          ap (got_from a) (doings_at b.0 true e) ∙ got-append a (r.doings b.0) (deed ∷ [])
          ∙ append-nil (got_from a (r.doings b.0))
      got false e = ap (got_from a) (doings_at b.0 false e)

  -- The rest

  grown : (n : ℕ) → HasGrown r later n
  grown n = go (nat_eq n d.0) refl
    where
      go : (b : Bool) → nat_eq n d.0 ≡ b → HasGrown r later n
      go true e = record { added = deed ∷ []; all = doings_at n true e; no_post = refl }
      go false e = record { added = []; all = doings_at n false e ∙ sym (append-nil (r.doings n)); no_post = refl }

  other_node : (n : ℕ) → is_node_id t.nodes (at n) ≡ false → (b : Bool) → nat_eq n d.0 ≡ b → nat_eq n d.0 ≡ false
  other_node n none true e =
      absurd (cc (none, ap (is_node_id t.nodes) (same_node (at n) d e), (joins-nodes t u d joined).to))
  other_node n none false e = e

  nowhere : (n : ℕ) → is_node_id t.nodes (at n) ≡ false → IsRecordNowhere t later n
  nowhere n none =
      nowhere-kept t r later n (doings_at n false (other_node n none (nat_eq n d.0) refl)) (all.nowhere n none)

  posts_same : (n : ℕ) → posts_of (at n) (deeds_at later n) ≡ posts_of (at n) (deeds_at r n)
  posts_same n =
      let g = grown n in
      ap (map (line_of (at n))) (ap (λ ds. filter is_posted (deeds_in ds)) g.all ∙ posts-more (r.doings n) g.added
      ∙ ap (λ ds. filter is_posted (deeds_at r n) ++ ds) g.no_post ∙ append-nil (filter is_posted (deeds_at r n)))

  -- The stations stand for the record with the noise.
  pub standing-noised : (new : StationState) → IsStationAt t lines later w d new → (ys : List StationState) →
      AllZip (IsPlaced t lines r w d new) (ids_of t) ys → AreStanding t lines later w ys
  standing-noised new is ys placed = record {
    valid = all.valid;
    each = zip-more (IsPlaced t lines r w d new) (IsStationAt t lines later w) (station new is) (ids_of t) ys placed;
    rings = ring;
    nowhere = nowhere;
    posts = λ n. posts_same n ∙ all.posts n ∙ sym (posts_same 0);
  }

-- nothing more was posted
pub posts-in-noised : (t : Network) (lines : List Disturb) (u d : NodeId) (bytes : List ℕ) (r : Record) (w : Wires)
    (xs : List StationState) → AreStanding t lines r w xs → is_world_channel t u d ≡ true →
    posts_in (noised u d bytes r) ≡ posts_in r
posts-in-noised t lines u d bytes r w xs all joined = posts_same t lines u d bytes r w xs all joined 0

pub noise-stands-for : NoiseStandsFor
noise-stands-for t lines u d bytes r w xs new ys all follow joined is placed = record {
  stands = standing-noised t lines u d bytes r w xs all joined new is ys placed;
  follow = posts-still-follow t r (noised u d bytes r) (grown t lines u d bytes r w xs all joined) follow;
}

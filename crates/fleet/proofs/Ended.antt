-- How a round on threads ends.
use Rattle.std.proofs.Common.{◌≡◌, ◌≤◌, ◌<◌, ℕ, true, false, List, [], ◌∷◌, length, map, sym, ap, ◌∙◌, arith}
use Rattle.std.specs.{Prelude.{Some, slice_get}, List.{AllByRecursion, AllZip}}
use Rattle.ason_base.specs.{declared.limits.TheConstants.MOST_EVENTS, declared.ids.NodeId.NodeId, declared.commands.Disturb.Disturb, Network.{Network, is_node_id}}
use Rattle.ason_base.proofs.{Members.all-mapped, Places.all-at}
use Rattle.flood.proofs.Members.{there_from_place}
use Rattle.round_rules.specs.{PartLimits.IsAtLimit, States.StationState, Turned.comes_to_end, OneWorker.ids_of, Records.{Record, log_at}, Unfinished.{IsRoundBy, IsUnfinishedBy, leaves}, Fleets.{IsStationAt, Wires}, Rounding.{AreHalted, HasHaltedFull, IsLeftAt}, FleetTurns.AfterTurns}
use Rattle.round_rules.specs.declared.turns.Turn.TheVariants as turn
use Rattle.round_rules.proofs.TurnEnds.{all-ended}
use Rattle.fleet.specs.Turning.{HaveTurned, was_at_limit, was_starved}
use Rattle.fleet.proofs.{Firsts.{IsFirstPassing, lower-before, node-place, place-known}, OnThreads.{AreRounded, after-turns}, Places.{get-map, zip-at, zip-get}, Turning.turns-limit}

abbrev IsFull : StationState → Type 0
IsFull s = IsAtLimit s → length s.log ≡ MOST_EVENTS

pub all-end : (ys : List StationState) → AllByRecursion (λ s. was_starved s ≡ false) ys →
    AllByRecursion (λ s. was_at_limit s ≡ false) ys →
    AllByRecursion (λ (s : StationState). comes_to_end s.answer ≡ true) ys
all-end [] p q = tt
all-end (y ∷ ys) p q = (all-ended y.answer p.0 q.0, all-end ys p.1 q.1)

-- All came to their end

pub round-ended : (t : Network) (lines : List Disturb) (r : Record) (stride workers : ℕ) (ys zs : List StationState) →
    2 ≤ workers → (is : AreRounded t lines r stride ys zs) → AllByRecursion (λ s. was_starved s ≡ false) ys →
    AllByRecursion (λ s. was_at_limit s ≡ false) ys → IsRoundBy t lines workers r is.made.after
round-ended t lines r stride workers ys zs many is fed free = record {
  round = is.made.round is.turned_begun (all-mapped (λ
      (y : AfterTurns). comes_to_end y.end ≡ true) after-turns ys (all-end ys fed free));
  one = λ e. absurd (more workers many e);
}
  where
    more : (k : ℕ) → 2 ≤ k → k ≡ 1 → ⊥
    more k p q = absurd (omega (arith, p, q))

-- Some ended at the limit

halted_full : (ns : List NodeId) (t : Network) (lines : List Disturb) (r : Record) (w : Wires) (stride : ℕ)
    (xs ys : List StationState) → AllZip (IsStationAt t lines r w) ns xs → HaveTurned stride xs ys →
    AllByRecursion IsFull ys → AllByRecursion (λ s. was_starved s ≡ false) ys →
    AllByRecursion HasHaltedFull (map after-turns ys)
halted_full ns t lines r w stride [] [] at turned full fed = tt
halted_full ns t lines r w stride [] (y ∷ ys) at turned full fed = absurd turned
halted_full ns t lines r w stride (x ∷ xs) [] at turned full fed = absurd turned
halted_full [] t lines r w stride (x ∷ xs) (y ∷ ys) at turned full fed = absurd at
halted_full (n ∷ ns) t lines r w stride (x ∷ xs) (y ∷ ys) at turned full fed = (
  record {
    fed = fed.0;
    full = λ limit. full.0 (turns-limit stride true x y y.answer turned.0 limit t n (r.doings n.0) at.0.station);
  },
  halted_full ns t lines r w stride xs ys at.1 turned.1 full.1 fed.1,
)

-- the station of the node at this place after its turns
module _ (t : Network) (lines : List Disturb) (r : Record) (stride : ℕ) (ys zs : List StationState)
    (is : AreRounded t lines r stride ys zs) where
  left_at : (k : ℕ) (n : NodeId) (y : StationState) → slice_get (ids_of t) k ≡ Some n → slice_get ys k ≡ Some y →
      leaves r is.made.after n ≡ was_at_limit y
  left_at k n y at there =
      zip-at (IsLeftAt r is.made.after) (ids_of t) (map after-turns ys) k n (after-turns y) is.made.left at
      (get-map after-turns ys k y there)

  log_here : (k : ℕ) (n : NodeId) (y : StationState) → slice_get (ids_of t) k ≡ Some n → slice_get ys k ≡ Some y →
      y.log ≡ log_at is.made.after n.0
  log_here k n y at there =
      (zip-at (IsStationAt t lines is.made.after is.made.wires_after) (ids_of t) ys k n y is.turned_stand.each at
      there).station.stands.sound.log

  pub round-cut : (workers : ℕ) → 2 ≤ workers → AllByRecursion IsFull ys →
      AllByRecursion (λ s. was_starved s ≡ false) ys → (k : ℕ) (n : NodeId) → slice_get (ids_of t) k ≡ Some n →
      IsFirstPassing was_at_limit ys k → IsUnfinishedBy t lines workers r is.made.after n
  round-cut workers many full fed k n at first = record {
    unfinished = is.made.unfinished is.turned_begun halted;
    stopped = record {
      known = place-known t k n at;
      left = left_at k n first.item at first.is ∙ first.passes;
      least = least;
      full = ap length (sym (log_here k n first.item at first.is)) ∙ full_here;
    };
    one = λ e. absurd (more workers many e);
  }
    where
      more : (i : ℕ) → 2 ≤ i → i ≡ 1 → ⊥
      more i p q = absurd (omega (arith, p, q))

      all : AllByRecursion HasHaltedFull (map after-turns ys)
      all = halted_full (ids_of t) t lines r is.wires_before stride is.before ys is.stood.each is.turned full fed

      there : slice_get (map after-turns ys) k ≡ Some (after-turns first.item)
      there = get-map after-turns ys k first.item first.is

      full_here : length first.item.log ≡ MOST_EVENTS
      full_here =
          (all-at HasHaltedFull (map after-turns ys) k (after-turns first.item) all there).full first.passes

      halted : AreHalted (map after-turns ys)
      halted = record {
        all = all;
        node = after-turns first.item;
        there = there_from_place (map after-turns ys) k (after-turns first.item) there;
        limit = first.passes;
      }

      least : (m : NodeId) → is_node_id t.nodes m ≡ true → m.0 < n.0 → leaves r is.made.after m ≡ false
      least m known less =
          let place = node-place t m known in
          let y = zip-get (IsStationAt t lines is.made.after is.made.wires_after) (ids_of t) ys place.0 m
          is.turned_stand.each place.1 in
          left_at place.0 m y.0 place.1 y.1
          ∙ first.before place.0 y.0 (lower-before t is.stood.valid k place.0 n m at place.1 less) y.1

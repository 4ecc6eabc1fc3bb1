-- The seat of a node.
use Rattle.std.proofs.{Common.{◌≡◌, ◌<◌, ℕ, Bool, true, false, nat_eq, List, [], ◌∷◌, get_or, length, sym, ap, ◌∙◌, subst}, lemmas.List.Quantifiers.position-Some, lemmas.Option.slice_get-get_or}
use Rattle.std.specs.{Prelude.{None, Some, position, slice_get}, List.Contains}
use Rattle.ason_base.specs.{declared.ids.NodeId.NodeId, Network.{Network, is_node_id}}
use Rattle.ason_base.proofs.{Members.{there-from_map, one-of_all}, Numbers.self-number, Bridges.same_node}
use Rattle.round_rules.specs.OneWorker.{ids_of}
use Rattle.round_rules.proofs.Nodes.{node-there}
use Rattle.fleet.specs.{declared.seats.Seat.Seat, Commands.is_seat, Standing.AreSeats}
use Rattle.fleet.proofs.{Firsts.none-passes, Places.get-map}

-- the first that passes
pub record IsFirstFound {X : Type 0} (p : X → Bool) (xs : List X) (place : ℕ) : Type 0 where
  pub item : X
  pub there : slice_get xs place ≡ Some item
  pub passes : p item ≡ true

pub first-at : {X : Type 0} (p : X → Bool) (xs : List X) (place : ℕ) → position p xs ≡ Some place →
    IsFirstFound p xs place
first-at p [] place at = absurd (cc (at))
first-at p (x ∷ xs) place at =
    let is = position-Some p (x ∷ xs) place x at in
    record {
      item = get_or (x ∷ xs) place x;
      there = slice_get-get_or (x ∷ xs) place x is.0;
      passes = is.1;
    }

-- it is within the list
pub place-within : {X : Type 0} (p : X → Bool) (xs : List X) (place : ℕ) → position p xs ≡ Some place →
    place < length xs
place-within p [] place at = absurd (cc (at))
place-within p (x ∷ xs) place at = (position-Some p (x ∷ xs) place x at).0

-- the seat that is found is that of the node
pub seat-found : (t : Network) (seats : List Seat) (n : NodeId) (place : ℕ) → AreSeats t seats →
    position (is_seat n) seats ≡ Some place → slice_get (ids_of t) place ≡ Some n
seat-found t seats n place are at =
    let is = first-at (is_seat n) seats place at in
    ap (λ ids. slice_get ids place) (sym are.ids) ∙ get-map (λ (s : Seat). s.id) seats place is.item is.there
    ∙ ap Some (same_node is.item.id n is.passes)

-- each node of the network has a seat
pub seat-lost : (t : Network) (seats : List Seat) (n : NodeId) → AreSeats t seats →
    position (is_seat n) seats ≡ None → is_node_id t.nodes n ≡ true → ⊥
seat-lost t seats n are none known =
    let s = there-from_map (λ (s : Seat). s.id) seats n
    (subst (λ ids. Contains ids n) (sym are.ids) (node-there t n known)) in
    let lost = one-of_all (λ (s : Seat). is_seat n s ≡ false) seats s.0 (none-passes (is_seat n) seats none) s.1 in
    absurd (cc (lost, self-number n.0, ap (λ (k : NodeId). nat_eq k.0 n.0) s.2))

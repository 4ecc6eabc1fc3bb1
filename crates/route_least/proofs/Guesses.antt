-- Guesses of where nodes are.
use Rattle.std.proofs.{Common.{◌≡◌, inl, inr, ℕ, ◌%◌, ◌<◌, ◌≤◌, List, [], Some, length, length-set, set, slice_get, slice_index_or, sym, ◌∙◌, ap, subst, arith}, lemmas.Bool.cases_eq, lemmas.List.{get_or-set_same, get_or-set_other}}
use Rattle.route_least.specs.{declared.places.TheConstants.GUESSES, declared.places.Place.Place, Network.{AreGuesses, HasNode, HasSeated}}
use Rattle.ason_base.specs.declared.ids.NodeId.{NodeId}
use Rattle.route_least.proofs.PlaceLists.{node_at, node_within, none_some}

pub no_guesses : (places : List Place) (guesses : List ℕ) → places ≡ [] → length guesses ≡ GUESSES →
    AreGuesses places guesses
no_guesses places guesses none len = record {
  len = len;
  known = λ p n h. absurd (none_some (subst (λ ps. slice_get ps p ≡ Some h.0) none h.1));
}

-- what stands in old places stands in new ones
place_kept : (old new : List Place) (g p : ℕ) (n : NodeId) → HasNode old p n →
    ((i : ℕ) (m : NodeId) → HasNode old i m → HasNode new i m) → g < length old → g < length new
place_kept old new g p n there kept below =
    let here = node_at old g there.0 below in
    node_within new g _ (kept g _ here)

-- guesses are good for the same nodes
pub guesses_kept : (old new : List Place) (guesses : List ℕ) →
    ((i : ℕ) (m : NodeId) → HasNode old i m → HasNode new i m) →
    ((i : ℕ) (m : NodeId) → HasNode new i m → HasNode old i m) → AreGuesses old guesses → AreGuesses new guesses
guesses_kept old new guesses kept back are = record {
  len = are.len;
  known = λ p n h. place_kept old new _ p n (back p n h) kept (are.known p n (back p n h));
}

-- without a guess of its remainder a node has no place
pub unguessed : (places : List Place) (guesses : List ℕ) (n : NodeId) → AreGuesses places guesses →
    length places ≤ slice_index_or guesses (n.0 % GUESSES) 0 → (p : ℕ) → ¬ HasNode places p n
unguessed places guesses n are past p h = (let below = are.known p n h in omega arith)

-- a node that has its place now is guessed there
pub guessed : (old new : List Place) (guesses : List ℕ) (n : NodeId) (place : ℕ) → AreGuesses old guesses →
    HasSeated old new n place → AreGuesses new (set guesses (n.0 % GUESSES) place)
guessed old new guesses n place are has =
    let within : n.0 % GUESSES < length guesses = (let l : length guesses ≡ GUESSES = are.len in omega arith) in
    record {
      len = length-set guesses (n.0 % GUESSES) place ∙ are.len;
      known = λ p m h. elim (cases_eq (m.0 % GUESSES) (n.0 % GUESSES)) [
        | inl same ↦ subst (λ r. slice_index_or (set guesses (n.0 % GUESSES) place) r 0 < length new) (sym same)
            (subst (λ g. g < length new) (sym (get_or-set_same guesses (n.0 % GUESSES) place 0 within))
            (node_within new place n has.there))
        | inr other ↦ subst (λ g. g < length new)
            (sym (get_or-set_other guesses (n.0 % GUESSES) (m.0 % GUESSES) place 0 other))
            (elim (has.only p m h) [
              | inl before ↦ place_kept old new _ p m before has.kept (are.known p m before)
              | inr is ↦ absurd (other (ap (λ x. x.0 % GUESSES) is))
            ])
      ];
    }

-- Where groups fail or are repaired each station gets what its node is told.
use Rattle.std.proofs.{Common.{◌≡◌, ℕ, zero, suc, List, [], ◌∷◌, ◌++◌, sym, ap, ◌∙◌, append-nil}, lemmas.List.append_assoc}
use Rattle.std.specs.Prelude.{Some, slice_get, slice_set}
use Rattle.ason_base.specs.declared.commands.DeskItem.{DeskItem}
use Rattle.round_rules.specs.States.{StationState}
use Rattle.fleet.specs.Posting.{IsStationTold}

-- One station

-- nothing is told
pub told-none : (items : List DeskItem) (s : StationState) → items ≡ [] → IsStationTold items s s
told-none items s none = record {
  station = ap (λ xs. record s { desk = xs }) (sym (append-nil s.desk) ∙ ap (λ xs. s.desk ++ xs) (sym none));
}

-- these items, and then those
pub told-both : (xs ys all : List DeskItem) (s z v : StationState) → xs ++ ys ≡ all → IsStationTold xs s z →
    IsStationTold ys z v →
    IsStationTold all s v
told-both xs ys all s z v same first second = record {
  station = second.station ∙ ap (λ (k : StationState). record k { desk = k.desk ++ ys; spare = v.spare }) first.station
      ∙ ap (λ items. record s { desk = items; spare = v.spare })
      (append_assoc s.desk xs ys ∙ ap (λ items. s.desk ++ items) same);
}

-- A place that is set

-- what was set at a place
pub get-set : {X : Type 0} (xs : List X) (i : ℕ) (y z : X) → slice_get (slice_set xs i y) i ≡ Some z → z ≡ y
get-set [] i y z at = absurd (cc (at))
get-set (x ∷ xs) zero y z at = cc (at)
get-set (x ∷ xs) (suc i) y z at = get-set xs i y z at

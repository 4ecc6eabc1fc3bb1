-- How many lines the logs of stations have.
use Rattle.std.proofs.{Common.{◌≡◌, ◌≤◌, ◌+◌, ℕ, true, List, [], ◌∷◌, length, refl, sym, ap, ◌∙◌, arith}, lemmas.List.Sums.sum_by-cons}
use Rattle.std.specs.{Prelude.sum_by, List.{AllByRecursion, AllZip}}
use Rattle.ason_base.specs.{declared.ids.NodeId.NodeId, declared.commands.Disturb.Disturb, Network.Network}
use Rattle.round_rules.specs.{States.StationState, Turned.comes_to_end, OneWorker.ids_of, Records.{Record, log_at}, Fleets.{AreStanding, IsStationAt, Wires}, Looks.HasKept}
use Rattle.fleet.specs.{Rounds.record_lines, Turning.{HaveTurned, line_count}}
use Rattle.fleet.proofs.Turning.{turns-grow}

counted : (t : Network) (lines : List Disturb) (r : Record) (w : Wires) (ns : List NodeId) (xs : List StationState) →
    AllZip (IsStationAt t lines r w) ns xs →
    line_count xs ≡ sum_by (λ (n : NodeId). length (log_at r n.0)) ns
counted t lines r w [] [] all = refl
counted t lines r w [] (x ∷ xs) all = absurd all
counted t lines r w (n ∷ ns) [] all = absurd all
counted t lines r w (n ∷ ns) (x ∷ xs) all =
    sum_by-cons (λ (s : StationState). length s.log) x xs
    ∙ ap (λ k. k + line_count xs) (ap length all.0.station.stands.sound.log)
    ∙ ap (λ k. length (log_at r n.0) + k) (counted t lines r w ns xs all.1)
    ∙ sym (sum_by-cons (λ (m : NodeId). length (log_at r m.0)) n ns)

-- as many as the record has
pub lines-counted : (t : Network) (lines : List Disturb) (r : Record) (w : Wires) (xs : List StationState) →
    AreStanding t lines r w xs → line_count xs ≡ record_lines t r
lines-counted t lines r w xs all = counted t lines r w (ids_of t) xs all.each

-- looks write none
pub kept-count : (xs ys : List StationState) → AllZip HasKept xs ys → line_count ys ≡ line_count xs
kept-count [] [] all = refl
kept-count [] (y ∷ ys) all = absurd all
kept-count (x ∷ xs) [] all = absurd all
kept-count (x ∷ xs) (y ∷ ys) all =
    sum_by-cons (λ (s : StationState). length s.log) y ys
    ∙ ap (λ k. k + line_count ys) (ap length all.0.log)
    ∙ ap (λ k. length x.log + k) (kept-count xs ys all.1)
    ∙ sym (sum_by-cons (λ (s : StationState). length s.log) x xs)

-- where none goes away at any station
pub count-more : (xs ys : List StationState) →
    AllZip (λ (x y : StationState). length x.log ≤ length y.log) xs ys → line_count xs ≤ line_count ys
count-more [] [] all = omega arith
count-more [] (y ∷ ys) all = absurd all
count-more (x ∷ xs) [] all = absurd all
count-more (x ∷ xs) (y ∷ ys) all =
    let one = all.0 in
    let rest = count-more xs ys all.1 in
    let before = sum_by-cons (λ (s : StationState). length s.log) x xs in
    let after = sum_by-cons (λ (s : StationState). length s.log) y ys in
    omega (arith, one, rest, before, after)

-- as in turns that come to their end
pub turned-more : (stride : ℕ) (xs ys : List StationState) → HaveTurned stride xs ys →
    AllByRecursion (λ (s : StationState). comes_to_end s.answer ≡ true) ys →
    AllZip (λ (x y : StationState). length x.log ≤ length y.log) xs ys
turned-more stride [] [] turned ends = tt
turned-more stride [] (y ∷ ys) turned ends = absurd turned
turned-more stride (x ∷ xs) [] turned ends = absurd turned
turned-more stride (x ∷ xs) (y ∷ ys) turned ends =
    (turns-grow stride true x y y.answer turned.0 ends.0, turned-more stride xs ys turned.1 ends.1)

-- Numbers that are flagged by remainder, and the numbers of a route's links.
use Rattle.std.proofs.{Common.{◌≡◌, ◌↔◌, inl, inr, ℕ, ◌+◌, ◌%◌, ◌<◌, ◌≤◌, Bool, true, List, length, length-set, map, get_or, set, sym, ◌∙◌, ap, subst, arith}, lemmas.Bool.cases_eq, lemmas.List.{get_or-map, get_or_default, length-map}}
use Rattle.std.specs.List.{Contains}
use Rattle.route_pair.specs.{declared.bans.TheConstants.FLAGS, Closed.{AreFlagged, IsRowOnRoute}}
use Rattle.ason_base.specs.{declared.ids.LinkId.LinkId, declared.network.TeRow.TeRow, declared.steps.Step.Step}
use Rattle.route_least.specs.Costs.{is_place_marked}
use Rattle.route_least.proofs.Lowered.{marked_other, marked_same}
use Rattle.ason_base.proofs.Numbers.{before-or-same}

-- the flags of the first numbers, so many, are up
pub record AreFlaggedTo (numbers : List ℕ) (count : ℕ) (flags : List Bool) : Type 0 where
  pub len : length flags ≡ FLAGS
  pub up : (k : ℕ) → k < count → is_place_marked flags (get_or numbers k 0 % FLAGS) ≡ true

pub none_flagged : (numbers : List ℕ) (flags : List Bool) → length flags ≡ FLAGS → AreFlaggedTo numbers 0 flags
none_flagged numbers flags len = record { len = len; up = λ k below. absurd (omega arith) }

pub flagged_more : (numbers : List ℕ) (count : ℕ) (flags : List Bool) → AreFlaggedTo numbers count flags →
    AreFlaggedTo numbers (count + 1) (set flags (get_or numbers count 0 % FLAGS) true)
flagged_more numbers count flags are =
    let at : ℕ = get_or numbers count 0 % FLAGS in
    let within : at < length flags = (let l : length flags ≡ FLAGS = are.len in omega arith) in
    record {
      len = length-set flags at true ∙ are.len;
      up = λ k below. elim (cases_eq (get_or numbers k 0 % FLAGS) at) [
        | inl same ↦ subst (λ r. is_place_marked (set flags at true) r ≡ true) (sym same)
            (marked_same flags at true within)
        | inr other ↦ marked_other flags at (get_or numbers k 0 % FLAGS) true other ∙
            (elim (before-or-same k count below) [
              | inl before ↦ are.up k before
              | inr last ↦ absurd (other (ap (λ i. get_or numbers i 0 % FLAGS) last))
            ])
      ];
    }

pub all_flagged : (numbers : List ℕ) (count : ℕ) (flags : List Bool) → length numbers ≤ count →
    AreFlaggedTo numbers count flags → AreFlagged numbers flags
all_flagged numbers count flags all are = record {
  len = are.len;
  up = λ x there. (let within : there.0 < length numbers = there.1 in
      subst (λ n. is_place_marked flags (n % FLAGS) ≡ true) (get_or_default numbers there.0 0 x within ∙ there.2)
      (are.up there.0 (omega arith)));
}

same_link : (a b : LinkId) → a.0 ≡ b.0 → a ≡ b
same_link a b e = λ i. record { 0 = e i }

-- a row's link is among the numbers of a route's links just where it is on the route
pub on_route : (route : List Step) (row : TeRow) (links : List ℕ) → links ≡ map (λ s. s.link.0) route →
    Contains links row.link.0 ↔ IsRowOnRoute route row
on_route route row links are = (
  (λ h.
      (let there : Contains (map (λ s. s.link.0) route) row.link.0 = subst (λ xs. Contains xs row.link.0) are h in
      let within : there.0 < length route = subst (λ n. there.0 < n) (length-map route (λ s. s.link.0)) there.1 in
      let step : Step = get_or route there.0 no_step in (
        step,
        (there.0, within, get_or_default route there.0 step no_step within),
        same_link row.link step.link (sym there.2 ∙ get_or-map (λ s. s.link.0) route there.0 no_step row.link.0 within),
      ))),
  (λ has. subst (λ xs. Contains xs row.link.0) (sym are)
      (let there = has.1 in (
        there.0,
        subst (λ n. there.0 < n) (sym (length-map route (λ s. s.link.0))) there.1,
        get_or-map (λ s. s.link.0) route there.0 has.0 row.link.0 there.1 ∙ ap (λ s. s.link.0) there.2 ∙
            sym (ap (λ l. l.0) has.2),
      ))),
)
  where
    no_step : Step
    no_step = record { node = record { 0 = 0 }; link = record { 0 = 0 } }

-- A round over the places, and the table at which a round lowers nothing.
use Rattle.std.proofs.{Common.{◌≡◌, inl, inr, ℕ, zero, suc, ◌+◌, ◌*◌, ◌<◌, ◌≤◌, List, ◌++◌, Option, Some, None, length, set, replicate, take, drop, Bool, true, false, sum_by, refl, sym, ◌∙◌, ap, subst, arith, length-set}, Math.ListN.get_or-eq_default, Math.Seq.take-append_seam, lemmas.Bool.{cases_eq, cases_lt}, lemmas.List.{get_or-set_same, get_or-set_other, length-replicate}, lemmas.List.Folds.sum_by-replicate, lemmas.List.Sums.sum_by-set}
use Rattle.ason_base.proofs.Numbers.{before-or-same}
use Rattle.route_least.specs.{declared.places.Arc.Arc, Costs.{cost_at, height, is_place_marked, reached, AreAttained, AreBounded, AreLeast, AreArcsSettled, IsArcSettled, IsCostStep, Reach}, Costs.Reach.{Start, Onward}}
use Rattle.route_least.proofs.{Lowered.{no_step, then_step, unmarked_before}, Relaxed.falls_more}

-- the places that aren't marked
abbrev pub Off : List Bool → ℕ → Type 0
Off marks p = is_place_marked marks p ≡ false

-- after a round over the places before one
pub record IsPassing (MayGo : ℕ → Arc → Type 0) (before : List (Option ℕ)) (off : List Bool) (place : ℕ)
    (after : List (Option ℕ)) (on : List Bool) (changed : Bool) : Type 0 where
  pub bounded : AreBounded after
  pub step : IsCostStep MayGo before after
  pub settled : AreArcsSettled MayGo (Off off) before → AreArcsSettled MayGo (Off on) after
  pub none : changed ≡ false → (p : ℕ) → p < place → is_place_marked on p ≡ false
  pub kept : changed ≡ false → after ≡ before
  pub falls : changed ≡ true → sum_by height after < sum_by height before

pub passing : (MayGo : ℕ → Arc → Type 0) (before : List (Option ℕ)) (off : List Bool) → AreBounded before →
    IsPassing MayGo before off 0 before off false
passing MayGo before off bounded = record {
  bounded = bounded;
  step = no_step MayGo before;
  settled = λ h. h;
  none = λ e p below. absurd (omega arith);
  kept = λ e. refl;
  falls = λ e. absurd (cc (e));
}

module _ (MayGo : ℕ → Arc → Type 0) (before after new : List (Option ℕ)) (off on next : List Bool) (place : ℕ)
    (changed : Bool) (p : IsPassing MayGo before off place after on changed) (step : IsCostStep MayGo after new)
    (settled : AreArcsSettled MayGo (Off on) after → AreArcsSettled MayGo (Off next) new) where
  pub passed : sum_by height new < sum_by height after → IsPassing MayGo before off (place + 1) new next true
  passed falls = record {
    bounded = step.bounded p.bounded;
    step = then_step MayGo before after new p.step step;
    settled = λ h. settled (p.settled h);
    none = λ e. absurd (cc (e));
    kept = λ e. absurd (cc (e));
    falls = λ e. falls_more changed before after new p.falls p.kept falls;
  }

  falls_same : (costs old : List (Option ℕ)) → costs ≡ old → sum_by height old < sum_by height before →
      sum_by height costs < sum_by height before
  falls_same costs old same less = subst (λ t. sum_by height t < sum_by height before) (sym same) less

  pub passed_none : new ≡ after → is_place_marked next place ≡ false →
      ((q : ℕ) → is_place_marked on q ≡ false → is_place_marked next q ≡ false) →
      IsPassing MayGo before off (place + 1) new next changed
  passed_none same here stay = record {
    bounded = step.bounded p.bounded;
    step = then_step MayGo before after new p.step step;
    settled = λ h. settled (p.settled h);
    none = λ e q below. elim (before-or-same q place below) [
      | inl earlier ↦ stay q (p.none e q earlier)
      | inr at ↦ subst (λ k. is_place_marked next k ≡ false) (sym at) here
    ];
    kept = λ e. same ∙ p.kept e;
    falls = λ e. falls_same new after same (p.falls e);
  }

pub all_passed : (MayGo : ℕ → Arc → Type 0) (before after : List (Option ℕ)) (off on : List Bool) (place : ℕ)
    (changed : Bool) → length on ≤ place → IsPassing MayGo before off place after on changed → changed ≡ false →
    (p : ℕ) → is_place_marked on p ≡ false
all_passed MayGo before after off on place changed all p e q = elim (cases_lt q (length on)) [
  | inl inside ↦ p.none e q (omega arith)
  | inr past ↦ get_or-eq_default on false past
]

-- The table

-- a table of so many places on the way to the least costs
pub record IsCostTable (MayGo : ℕ → Arc → Type 0) (start count : ℕ) (costs : List (Option ℕ))
    (lowered : List Bool) : Type 0 where
  pub len : length costs ≡ count
  pub marks : length lowered ≡ count
  pub bounded : AreBounded costs
  pub attained : AreAttained MayGo start costs
  pub zero : cost_at costs start ≡ Some 0
  pub settled : AreArcsSettled MayGo (Off lowered) costs

empty : (count place : ℕ) → cost_at (replicate count None) place ≡ None
empty zero place = refl
empty (suc count) zero = refl
empty (suc count) (suc place) = empty count place

inside : (start count : ℕ) → start < count → start < length (replicate {A = Option ℕ} count None)
inside start count within = omega (arith, length-replicate {A = Option ℕ} count None)

first_cost : (start count place cost : ℕ) → start < count →
    cost_at (set (replicate count None) start (Some 0)) place ≡ Some cost → (place ≡ start) × (cost ≡ 0)
first_cost start count place cost within has =
    elim (cases_eq place start) [
      | inl same ↦ (
        same,
        (let h : cost_at (set (replicate count None) start (Some 0)) place ≡ Some 0 =
            rw same (get_or-set_same (replicate count None) start (Some 0) None
            (inside start count within)) in cc),
      )
      | inr other ↦ absurd (let h : cost_at (set (replicate count None) start (Some 0)) place ≡ cost_at
          (replicate count None) place = get_or-set_other (replicate count None) start place
          (Some 0) None other in let n = empty count place in cc)
    ]

first_reached : (start count : ℕ) → start < count → sum_by reached (set (replicate count None) start (Some 0)) ≡ 1
first_reached start count within =
    let one : sum_by reached (set (replicate count None) start (Some 0)) + reached
    (cost_at (replicate count None) start) ≡ sum_by reached (replicate count None) + 1 =
    sum_by-set reached (replicate count None) start (Some 0) None (inside start count within) in
    let none : sum_by reached (replicate count None) ≡ count * 0 = sum_by-replicate reached count None in
    let before : reached (cost_at (replicate count None) start) ≡ 0 = ap reached (empty count start) in
    omega arith

pub first_table : (MayGo : ℕ → Arc → Type 0) (start count : ℕ) → start < count →
    IsCostTable MayGo start count (set (replicate count None) start (Some 0)) (set (replicate count false) start true)
first_table MayGo start count within = record {
  len = length-set (replicate count None) start (Some 0) ∙ length-replicate count None;
  marks = length-set (replicate count false) start true ∙ length-replicate count false;
  bounded = λ place cost has. (let h = first_cost start count place cost within has in let e =
      first_reached start count within in omega arith);
  attained = λ place cost has. (let h = first_cost start count place cost within has in subst
      (λ c. Reach MayGo start place c) (sym h.1)
      (subst (λ p. Reach MayGo start p 0) (sym h.0) Start));
  zero = get_or-set_same (replicate count None) start (Some 0) None (inside start count within);
  settled = λ place arc goes unmarked cost has.
      (let h = first_cost start count place cost within has in
      absurd (unmarked_start h.0 unmarked));
}
  where
    room : start < length (replicate {A = Bool} count false)
    room = omega (arith, length-replicate {A = Bool} count false)

    unmarked_start : {place : ℕ} → place ≡ start →
        is_place_marked (set (replicate count false) start true) place ≡ false → ⊥
    unmarked_start e off = (unmarked_before (replicate count false) start _ room off).0 e

reach_least : (MayGo : ℕ → Arc → Type 0) (start : ℕ) (costs : List (Option ℕ)) → cost_at costs start ≡ Some 0 →
    ((place : ℕ) (arc : Arc) → MayGo place arc → IsArcSettled costs place arc) → (place cost : ℕ) →
    Reach MayGo start place cost → (least : ℕ) × (cost_at costs place ≡ Some least) × (least ≤ cost)
reach_least MayGo start costs begun settled _ _ Start = (0, begun, omega arith)
reach_least MayGo start costs begun settled _ _ (Onward place arc cost goes way) =
    let before = reach_least MayGo start costs begun settled place cost way in
    let after = settled place arc goes before.0 before.1 in
    (after.0, after.1, omega (arith, before.2, after.2))

pub settled_least : (MayGo : ℕ → Arc → Type 0) (start count : ℕ) (costs : List (Option ℕ)) (lowered : List Bool) →
    IsCostTable MayGo start count costs lowered → ((p : ℕ) → is_place_marked lowered p ≡ false) →
    AreLeast MayGo start costs
settled_least MayGo start count costs lowered table off =
    let settled : (place : ℕ) (arc : Arc) → MayGo place arc → IsArcSettled costs place arc =
    λ place arc goes. table.settled place arc goes (off place) in
    record {
      zero = table.zero;
      attained = table.attained;
      settled = settled;
      least = reach_least MayGo start costs table.zero settled;
    }

-- what a slice of a whole vector leaves there
pub written_back : {X : Type 0} (n : ℕ) (xs ys : List X) → length xs ≡ n → take n (xs ++ drop (length xs) ys) ≡ xs
written_back n xs ys e = subst (λ m. take m (xs ++ drop (length xs) ys) ≡ xs) e
    (take-append_seam xs (drop (length xs) ys))

-- a round keeps a table
pub next_table : (MayGo : ℕ → Arc → Type 0) (start count : ℕ) (costs after : List (Option ℕ))
    (lowered on : List Bool) → length after ≡ length costs → length on ≡ length lowered →
    IsCostTable MayGo start count costs lowered → IsCostStep MayGo costs after →
    (AreArcsSettled MayGo (Off lowered) costs → AreArcsSettled MayGo (Off on) after) →
    IsCostTable MayGo start count after on
next_table MayGo start count costs after lowered on len marks table step settled = record {
  len = len ∙ table.len;
  marks = marks ∙ table.marks;
  bounded = step.bounded table.bounded;
  attained = step.attained start table.attained;
  zero = step.zero start table.zero;
  settled = settled table.settled;
}

-- a round that works on all of two vectors
pub round_table : (MayGo : ℕ → Arc → Type 0) (start count n m : ℕ) (costs seen after : List (Option ℕ))
    (lowered marks on : List Bool) → IsCostTable MayGo start count costs lowered → seen ≡ costs → marks ≡ lowered →
    length seen ≡ n → length marks ≡ m → length after ≡ length seen → length on ≡ length marks →
    IsCostStep MayGo seen after → (AreArcsSettled MayGo (Off marks) seen → AreArcsSettled MayGo (Off on) after) →
    IsCostTable MayGo start count (take n (after ++ drop (length after) costs))
    (take m (on ++ drop (length on) lowered))
round_table MayGo start count n m costs seen after lowered marks on table c l cn lm ca lo step settled =
    let first = subst (λ xs. IsCostTable MayGo start count xs marks) (sym c)
    (subst (IsCostTable MayGo start count costs) (sym l) table) in
    subst (λ xs. IsCostTable MayGo start count xs (take m (on ++ drop (length on) lowered)))
    (sym (written_back n after costs (ca ∙ cn)))
    (subst (IsCostTable MayGo start count after) (sym (written_back m on lowered (lo ∙ lm)))
    (next_table MayGo start count seen after marks on ca lo first step settled))

-- The labels that fit, label by label and risk by risk.
use Rattle.std.proofs.{Common.{◌≡◌, ℕ, Bool, true, false, not, nat_eq, List, [], ◌∷◌, ◌++◌, refl, sym, ap, subst, ◌∙◌, arith, append-nil, Contains}, lemmas.List.Folds.list_any-append, Math.Bool.or-false}
use Rattle.std.specs.{Prelude.{◌&&◌, ◌||◌, map}, List.list_any}
use Rattle.ason_base.specs.{declared.limits.TheConstants.MOST_LABELS, declared.ids.Fibre.Fibre, declared.ids.Lsp.Lsp, declared.risks.Risk.Risk, Labels.{up_to, without}, Lsps.{same_fibre, same_lsp}, Risks.{has_risk, same_risk}}
use Rattle.ason_base.proofs.{MaskMembers.{filter-agree, filter-filter}, Ordered.{any-there, there-any}, KeyedLists.filter-true, LspOrder.same_lsp-refl, RiskOrder.{contains-has_risk, has_risk-contains, same_risk-eq, same_risk-refl}, Bools.{and-left, and-right}}
use Rattle.share_check.specs.{declared.guarded.GuardedRisk.GuardedRisk, declared.guarded.Meets.Meets, Guards.{Guard, IsFirstMet, LabelTally, NoneMet, fits, fitting, guard_on, guards_of, guards_on, has_on, is_guard, is_risk_guarded, is_guard_met, is_guard_on, meets}}

-- Label by label

-- where nothing is guarded each label fits
pub fitting-none : (f : Fibre) (r : List Risk) → fitting [] f r ≡ up_to MOST_LABELS
fitting-none f r = filter-true (up_to MOST_LABELS)

module _ (f : Fibre) (r : List Risk) (s : List Guard) (t : LabelTally) where
  -- a test of the guards of one label
  on-label : (y : ℕ) → list_any (λ g. is_guard_met f r g && nat_eq g.label y) (guards_on t) ≡
      ((same_fibre t.fibre f && meets r t.guarded) && nat_eq t.label y)
  on-label y = all t.guarded
    where
      none : (a b : Bool) → false ≡ ((a && false) && b)
      none true b = refl
      none false b = refl

      parted : (a b p rest : Bool) → (((a && p) && b) || ((a && rest) && b)) ≡ ((a && (p || rest)) && b)
      parted true true true rest = refl
      parted true true false rest = refl
      parted true false true true = refl
      parted true false true false = refl
      parted true false false rest = refl
      parted false b p rest = refl

      all : (guarded : List GuardedRisk) →
          list_any (λ g. is_guard_met f r g && nat_eq g.label y) (map (guard_on t.fibre t.label) guarded) ≡
          ((same_fibre t.fibre f && meets r guarded) && nat_eq t.label y)
      all [] = none (same_fibre t.fibre f) (nat_eq t.label y)
      all (p ∷ guarded) =
          rw (all guarded)
          (parted (same_fibre t.fibre f) (nat_eq t.label y) (has_risk r p.risk) (meets r guarded))

  after : (y : ℕ) → list_any (λ g. is_guard_met f r g && nat_eq g.label y) (s ++ guards_on t) ≡
      (list_any (λ g. is_guard_met f r g && nat_eq g.label y) s ||
      ((same_fibre t.fibre f && meets r t.guarded) && nat_eq t.label y))
  after y =
      list_any-append (λ g. is_guard_met f r g && nat_eq g.label y) s (guards_on t)
      ∙ ap (λ b. list_any (λ g. is_guard_met f r g && nat_eq g.label y) s || b) (on-label y)

  -- one of the risks is guarded on the label, and the label fits no more
  pub fitting-fewer : (same_fibre t.fibre f && meets r t.guarded) ≡ true →
      fitting (s ++ guards_on t) f r ≡ without (fitting s f r) t.label
  fitting-fewer met =
      filter-agree (fits (s ++ guards_on t) f r) (λ y. fits s f r y && not (nat_eq y t.label)) (up_to MOST_LABELS)
      (λ y h. here y)
      ∙ sym (filter-filter (fits s f r) (λ y. not (nat_eq y t.label)) (up_to MOST_LABELS))
    where
      neither : (a b : Bool) → not (a || b) ≡ (not a && not b)
      neither true b = refl
      neither false b = refl

      swapped : (a b : ℕ) → nat_eq a b ≡ nat_eq b a
      swapped a b = grind arith

      here : (y : ℕ) → fits (s ++ guards_on t) f r y ≡ (fits s f r y && not (nat_eq y t.label))
      here y =
          ap not (after y)
          ∙ neither (list_any (λ g. is_guard_met f r g && nat_eq g.label y) s)
          ((same_fibre t.fibre f && meets r t.guarded) && nat_eq t.label y)
          ∙ ap (λ b. fits s f r y && not b) (rw met (swapped t.label y))

  -- none is, and the labels stay
  pub fitting-same : (same_fibre t.fibre f && meets r t.guarded) ≡ false →
      fitting (s ++ guards_on t) f r ≡ fitting s f r
  fitting-same met =
      filter-agree (fits (s ++ guards_on t) f r) (fits s f r) (up_to MOST_LABELS)
      (λ y h. ap not (after y
      ∙ ap (λ b. list_any (λ g. is_guard_met f r g && nat_eq g.label y) s || (b && nat_eq t.label y)) met
      ∙ or-false (list_any (λ g. is_guard_met f r g && nat_eq g.label y) s)))

-- the guards of one label more
pub guards-more : (ts : List LabelTally) (t : LabelTally) → guards_of (ts ++ t ∷ []) ≡ guards_of ts ++ guards_on t
guards-more [] t = append-nil (guards_on t)
guards-more (u ∷ ts) t =
    ap (λ gs. guards_on u ++ gs) (guards-more ts t) ∙ append-joined (guards_on u) (guards_of ts) (guards_on t)
  where
    append-joined : (a b c : List Guard) → a ++ (b ++ c) ≡ (a ++ b) ++ c
    append-joined [] b c = refl
    append-joined (x ∷ a) b c = ap (λ gs. x ∷ gs) (append-joined a b c)

-- whether one of the risks is guarded
pub not-met : (guarded : List GuardedRisk) (r : List Risk) → NoneMet guarded r → meets r guarded ≡ false
not-met guarded r none = go (meets r guarded) refl
  where
    go : (b : Bool) → meets r guarded ≡ b → b ≡ false
    go true e =
        let there = any-there (λ p. has_risk r p.risk) guarded e in
        let p = there.0 in
        cc (
          none p.lsp p.risk (has_risk-contains r p.risk there.2),
          there-any (is_guard p.lsp p.risk) guarded p there.1 (rw (same_risk-refl p.risk, same_lsp-refl p.lsp) refl),
        )
    go false e = refl

-- one of the risks is guarded where a first one is
pub is-met : (guarded : List GuardedRisk) (r : List Risk) (m : Meets) → IsFirstMet guarded r m → meets r guarded ≡ true
is-met guarded r m first =
    let there = any-there (is_guard m.lsp m.risk) guarded first.guards in
    let p = there.0 in
    let risk : m.risk ≡ p.risk =
    same_risk-eq m.risk p.risk (and-left (same_risk m.risk p.risk) (same_lsp p.lsp m.lsp) there.2) in
    there-any (λ p. has_risk r p.risk) guarded p there.1
    (subst (λ q. has_risk r q ≡ true) risk (contains-has_risk r m.risk first.asked))

-- Risk by risk

-- no LSP guards one of the risks on the label
abbrev pub NoneGuards : List Guard → Fibre → List Risk → ℕ → Type 0
NoneGuards s f r x = (l : Lsp) (q : Risk) → Contains r q → is_risk_guarded s f x l q ≡ false

met-guards : (g : Guard) (f : Fibre) (r : List Risk) (x : ℕ) → (is_guard_met f r g && nat_eq g.label x) ≡ true →
    Contains r g.risk × ((has_on f x g.risk g && same_lsp g.lsp g.lsp) ≡ true)
met-guards g f r x h =
    let met : is_guard_met f r g ≡ true = and-left (is_guard_met f r g) (nat_eq g.label x) h in
    let label : nat_eq g.label x ≡ true = and-right (is_guard_met f r g) (nat_eq g.label x) h in
    let fibre : same_fibre g.fibre f ≡ true = and-left (same_fibre g.fibre f) (has_risk r g.risk) met in
    let asked = has_risk-contains r g.risk (and-right (same_fibre g.fibre f) (has_risk r g.risk) met) in
    (asked, rw (fibre, label, same_risk-refl g.risk) (same_lsp-refl g.lsp))

guards-met : (g : Guard) (f : Fibre) (r : List Risk) (x : ℕ) (l : Lsp) (q : Risk) → Contains r q →
    (has_on f x q g && same_lsp g.lsp l) ≡ true → (is_guard_met f r g && nat_eq g.label x) ≡ true
guards-met g f r x l q asked h =
    let has : has_on f x q g ≡ true = and-left (has_on f x q g) (same_lsp g.lsp l) h in
    let on : is_guard_on f x g ≡ true = and-left (is_guard_on f x g) (same_risk q g.risk) has in
    let risk : q ≡ g.risk = same_risk-eq q g.risk (and-right (is_guard_on f x g) (same_risk q g.risk) has) in
    let fibre : same_fibre g.fibre f ≡ true = and-left (same_fibre g.fibre f) (nat_eq g.label x) on in
    let label : nat_eq g.label x ≡ true = and-right (same_fibre g.fibre f) (nat_eq g.label x) on in
    let has_it : has_risk r g.risk ≡ true = subst (λ p. has_risk r p ≡ true) risk (contains-has_risk r q asked) in
    rw (fibre, has_it) label

-- where no LSP guards one of the risks, the label fits
pub none-fits : (s : List Guard) (f : Fibre) (r : List Risk) (x : ℕ) → NoneGuards s f r x → fits s f r x ≡ true
none-fits s f r x none = go (list_any (λ g. is_guard_met f r g && nat_eq g.label x) s) refl
  where
    never : list_any (λ g. is_guard_met f r g && nat_eq g.label x) s ≡ true → ⊥
    never e =
        let there = any-there (λ g. is_guard_met f r g && nat_eq g.label x) s e in
        let met = met-guards there.0 f r x there.2 in
        cc (
          none there.0.lsp there.0.risk met.0,
          there-any (λ c. has_on f x there.0.risk c && same_lsp c.lsp there.0.lsp) s there.0 there.1 met.1,
        )

    go : (b : Bool) → list_any (λ g. is_guard_met f r g && nat_eq g.label x) s ≡ b → not b ≡ true
    go true e = absurd (never e)
    go false e = refl

-- on a label that fits no LSP guards one of the risks
pub fits-none : (s : List Guard) (f : Fibre) (r : List Risk) (x : ℕ) → fits s f r x ≡ true → NoneGuards s f r x
fits-none s f r x h l q asked = go (is_risk_guarded s f x l q) refl
  where
    met : is_risk_guarded s f x l q ≡ true → list_any (λ g. is_guard_met f r g && nat_eq g.label x) s ≡ true
    met e =
        let there = any-there (λ c. has_on f x q c && same_lsp c.lsp l) s e in
        there-any (λ g. is_guard_met f r g && nat_eq g.label x) s there.0 there.1
        (guards-met there.0 f r x l q asked there.2)

    go : (b : Bool) → is_risk_guarded s f x l q ≡ b → b ≡ false
    go true e = absurd (cc (h, met e))
    go false e = refl

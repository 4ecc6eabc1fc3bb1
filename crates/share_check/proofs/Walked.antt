-- Two lists in order that are walked side by side: what is asked, and what is guarded.
use Rattle.std.proofs.{Common.{◌≡◌, ◌≢◌, ◌≤◌, ◌<◌, ◌+◌, ℕ, zero, suc, Bool, true, false, List, [], ◌∷◌, length, get_or, refl, sym, ap, subst, ◌∙◌, arith, inl, inr, Contains}, lemmas.List.get_or_default, lemmas.List.Elements.Contains-get_or, lemmas.Bool.cases_lt}
use Rattle.std.specs.Prelude.{◌⊎◌, map}
use Rattle.ason_base.specs.{declared.ids.Lsp.Lsp, declared.risks.Risk.Risk, declared.risks.Risk.TheVariants.Srlg, Lsps.{lsp_before, same_lsp}, Risks.{AreRising, is_below, same_risk}}
use Rattle.ason_base.proofs.{Ordered.{any-there, there-any}, KeyOrder.not-back, LspOrder.{before-apart, same_lsp-eq, same_lsp-refl}, RiskOrder.{Apart, below-trans, not-below-itself, risk_key_order, same_risk-eq, same_risk-refl}, Bools.{neither-left, and-left, and-right}, Numbers.{before-or-same, less-or-same}}
use Rattle.share_check.specs.{declared.guarded.GuardedRisk.GuardedRisk, Guards.{AreRisksInOrder, IsFirstMet, NoneMet, has_guard, is_before, is_guard}}
use Rattle.share_check.proofs.GuardOrder.{by-lsp}

abbrev pub risks_in : List GuardedRisk → List Risk
risks_in guarded = map (λ p. p.risk) guarded

-- what stands for a risk beyond the list's end
abbrev pub unset : GuardedRisk
unset = record { risk = Srlg 0; lsp = record { ingress = record { 0 = 0 }; tunnel = 0; lsp = 0 } }

-- no later one is below an earlier one
abbrev pub NoneFalls : List Risk → Type 0
NoneFalls risks =
    (i k : ℕ) (d : Risk) → i ≤ k → k < length risks → is_below (get_or risks k d) (get_or risks i d) ≡ false

-- in a rising list no later risk is below an earlier one
pub rising-falls : (risks : List Risk) → AreRising risks → NoneFalls risks
rising-falls risks rising i k d le within = elim (less-or-same i k le) [
  | inl less ↦ not-back risk_key_order (get_or risks i d) (get_or risks k d) (rising i k d less within)
  | inr same ↦ subst (λ n. is_below (get_or risks n d) (get_or risks i d) ≡ false) same
      (risk_key_order.never (get_or risks i d))
]

-- each has one risk
pub length-risks : (guarded : List GuardedRisk) → length (risks_in guarded) ≡ length guarded
length-risks [] = refl
length-risks (p ∷ guarded) = ap suc (length-risks guarded)

-- the risk at a place
pub risk-at : (guarded : List GuardedRisk) (n : ℕ) (d : GuardedRisk) →
    get_or (risks_in guarded) n d.risk ≡ (get_or guarded n d).risk
risk-at [] n d = none n
  where
    none : (n : ℕ) → get_or [] n d.risk ≡ (get_or [] n d).risk
    none zero = refl
    none (suc n) = refl
risk-at (p ∷ guarded) zero d = refl
risk-at (p ∷ guarded) (suc n) d = risk-at guarded n d

-- in order no later risk is below an earlier one
pub ordered-falls : (guarded : List GuardedRisk) → AreRisksInOrder guarded → NoneFalls (risks_in guarded)
ordered-falls guarded ordered i k d le within = elim (less-or-same i k le) [
  | inl less ↦ (let some : GuardedRisk = record { risk = d; lsp = nobody } in
      subst (λ r. is_below r (get_or (risks_in guarded) i d) ≡ false) (sym (risk-at guarded k some))
      (subst (λ r. is_below (get_or guarded k some).risk r ≡ false) (sym (risk-at guarded i some))
      (neither-left _ _ (ordered i k some less (subst (λ n. k < n) (length-risks guarded) within)))))
  | inr same ↦ subst (λ n. is_below (get_or (risks_in guarded) n d) (get_or (risks_in guarded) i d) ≡ false) same
      (risk_key_order.never (get_or (risks_in guarded) i d))
]
  where
    nobody : Lsp
    nobody = record { ingress = record { 0 = 0 }; tunnel = 0; lsp = 0 }

-- the one at i, which is below the one at j of the other list, isn't there: neither before j, as is known, nor from j
-- on
pub further : (a b : List Risk) (i j : ℕ) (e : Risk) → NoneFalls b → i < length a → j < length b → Apart a b i →
    Apart b a j → is_below (get_or a i e) (get_or b j e) ≡ true → Apart a b (i + 1)
further a b i j e falls within inside left right here k m d h n =
    elim (before-or-same k i h) [
      | inl less ↦ left k m d less n
      | inr same ↦ elim (cases_lt m j) [
        | inl less ↦ subst (λ p. get_or a p d ≢ get_or b m d) (sym same) (λ q. right m i d less within (sym q))
        | inr from ↦ subst (λ p. get_or a p d ≢ get_or b m d) (sym same) (λ q.
            cc (falls j m d from n, subst (λ x. is_below x (get_or b j d) ≡ true) q below))
      ]
    ]
  where
    below : is_below (get_or a i d) (get_or b j d) ≡ true
    below =
        subst (λ x. is_below x (get_or b j d) ≡ true) (get_or_default a i e d within)
        (subst (λ y. is_below (get_or a i e) y ≡ true) (get_or_default b j e d inside) here)

-- Where a risk is guarded

pub record IsThere (guarded : List GuardedRisk) (l : Lsp) (q : Risk) : Type 0 where
  pub place : ℕ
  pub below : place < length guarded
  pub risk : (d : GuardedRisk) → (get_or guarded place d).risk ≡ q
  pub lsp : (d : GuardedRisk) → (get_or guarded place d).lsp ≡ l

is-there : (guarded : List GuardedRisk) (l : Lsp) (q : Risk) → has_guard l q guarded ≡ true → IsThere guarded l q
is-there guarded l q e =
    let found = any-there (is_guard l q) guarded e in
    let p = found.0 in
    let at = found.1 in
    let risk : q ≡ p.risk = same_risk-eq q p.risk (and-left (same_risk q p.risk) (same_lsp p.lsp l) found.2) in
    let lsp : p.lsp ≡ l = same_lsp-eq p.lsp l (and-right (same_risk q p.risk) (same_lsp p.lsp l) found.2) in
    let read : (d : GuardedRisk) → get_or guarded at.0 d ≡ p = λ d. get_or_default guarded at.0 d p at.1 ∙ at.2 in
    record {
      place = at.0;
      below = at.1;
      risk = λ d. ap (λ x. x.risk) (read d) ∙ sym risk;
      lsp = λ d. ap (λ x. x.lsp) (read d) ∙ lsp;
    }

module _ (guarded : List GuardedRisk) (r : List Risk) where
  there : (l : Lsp) (q : Risk) (found : IsThere guarded l q) → get_or (risks_in guarded) found.place q ≡ q
  there l q found =
      let d : GuardedRisk = record { risk = q; lsp = l } in
      risk-at guarded found.place d ∙ found.risk d

  below-risks : (l : Lsp) (q : Risk) (found : IsThere guarded l q) → found.place < length (risks_in guarded)
  below-risks l q found = subst (λ n. found.place < n) (sym (length-risks guarded)) found.below

  -- one of the lists is at its end, and none was met
  pub none-met : (i j : ℕ) → (length r ≤ i) ⊎ (length guarded ≤ j) → Apart r (risks_in guarded) i →
      Apart (risks_in guarded) r j → NoneMet guarded r
  none-met i j ended left right l q asked = go (has_guard l q guarded) refl
    where
      never : IsThere guarded l q → (length r ≤ i) ⊎ (length guarded ≤ j) → ⊥
      never found (inl all) =
          left asked.0 found.place q (let h = asked.1 in omega (arith, h, all)) (below-risks l q found)
          (asked.2 ∙ sym (there l q found))
      never found (inr all) =
          right found.place asked.0 q (let h = found.below in omega (arith, h, all)) asked.1
          (there l q found ∙ sym asked.2)

      go : (b : Bool) → has_guard l q guarded ≡ b → b ≡ false
      go true e = absurd (never (is-there guarded l q e) ended)
      go false e = refl

  -- the risks at both places are the same, and none was met before
  pub met-first : (i j : ℕ) (e : Risk) (p : GuardedRisk) → AreRising r → AreRisksInOrder guarded → i < length r →
      j < length guarded → p ≡ get_or guarded j p → get_or r i e ≡ p.risk → Apart r (risks_in guarded) i →
      Apart (risks_in guarded) r j → IsFirstMet guarded r (record { risk = p.risk; lsp = p.lsp })
  met-first i j e p rising ordered within inside is same left right = record {
    asked = subst (Contains r) same (Contains-get_or r i e within);
    guards = there-any (is_guard p.lsp p.risk) guarded p (j, inside, sym is)
        (rw (same_risk-refl p.risk, same_lsp-refl p.lsp) refl);
    least_risk = λ q l asked below. lesser q l asked below (has_guard l q guarded) refl;
    least_lsp = λ l before. earlier l before (has_guard l p.risk guarded) refl;
  }
    where
      order : (k i : ℕ) → (k < i) ⊎ ((i ≡ k) ⊎ (i < k))
      order k i = grind arith

      at_i : (d : Risk) → get_or r i d ≡ p.risk
      at_i d = get_or_default r i d e within ∙ same

      never-lesser : (q : Risk) (l : Lsp) (asked : Contains r q) → is_below q p.risk ≡ true → IsThere guarded l q →
          (asked.0 < i) ⊎ ((i ≡ asked.0) ⊎ (i < asked.0)) → ⊥
      never-lesser q l asked below found (inl less) =
          left asked.0 found.place q less (below-risks l q found) (asked.2 ∙ sym (there l q found))
      never-lesser q l asked below found (inr (inl here)) =
          let is : p.risk ≡ q = sym (at_i q) ∙ ap (λ n. get_or r n q) here ∙ asked.2 in
          not-below-itself q (subst (λ x. is_below q x ≡ true) is below)
      never-lesser q l asked below found (inr (inr more)) =
          let later : is_below p.risk q ≡ true =
          subst (λ x. is_below x q ≡ true) (at_i q)
          (subst (λ x. is_below (get_or r i q) x ≡ true) asked.2 (rising i asked.0 q more asked.1)) in
          not-below-itself q (below-trans q p.risk q below later)

      lesser : (q : Risk) (l : Lsp) → Contains r q → is_below q p.risk ≡ true → (b : Bool) →
          has_guard l q guarded ≡ b → b ≡ false
      lesser q l asked below true f =
          absurd (never-lesser q l asked below (is-there guarded l q f) (order asked.0 i))
      lesser q l asked below false f = refl

      never-earlier : (l : Lsp) → lsp_before l p.lsp ≡ true → (found : IsThere guarded l p.risk) →
          (found.place < j) ⊎ ((j ≡ found.place) ⊎ (j < found.place)) → ⊥
      never-earlier l before found (inl less) =
          right found.place i p.risk less within (there l p.risk found ∙ sym (at_i p.risk))
      never-earlier l before found (inr (inl here)) =
          let is : p.lsp ≡ l =
          ap (λ x. x.lsp) is ∙ ap (λ n. (get_or guarded n p).lsp) here ∙ found.lsp p in
          cc (before-apart l p.lsp before, subst (λ m. same_lsp l m ≡ true) (sym is) (same_lsp-refl l))
      never-earlier l before found (inr (inr more)) =
          let q = get_or guarded found.place p in
          let behind : is_before q p ≡ false =
          subst (λ x. is_before q x ≡ false) (sym is) (ordered j found.place p more found.below) in
          let ahead : is_before q p ≡ true =
          by-lsp q p (found.risk p) ∙ subst (λ m. lsp_before m p.lsp ≡ true) (sym (found.lsp p)) before in
          cc (behind, ahead)

      earlier : (l : Lsp) → lsp_before l p.lsp ≡ true → (b : Bool) → has_guard l p.risk guarded ≡ b → b ≡ false
      earlier l before true f =
          absurd (never-earlier l before (is-there guarded l p.risk f) (order (is-there guarded l p.risk f).place j))
      earlier l before false f = refl

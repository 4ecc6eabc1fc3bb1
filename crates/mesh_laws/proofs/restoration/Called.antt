-- The call of an LSP that stands at its ingress: there is just one.
use Rattle.std.proofs.{Common.{◌≡◌, ℕ, Bool, true, false, List, [], ◌∷◌, cond, filter, find, length, refl, ap, ◌∙◌, subst, arith, inl, inr, Contains}, lemmas.List.Elements.recursion_from_All, lemmas.List.Sums.length-filter}
use Rattle.std.specs.Prelude.{Some, IsTrue}
use Rattle.ason_base.specs.{declared.ids.Lsp.Lsp, declared.tables.CallRec.CallRec, declared.tables.Leg.Leg}
use Rattle.ason_base.proofs.{Members.{contains-cases, there-kept, contains-none}, Numbers.self-number}
use Rattle.mesh_rules.specs.{Calls.{call_with, names}, Legs.{find_leg, is_closing}, State.NodeState}
use Rattle.mesh_nodes.proofs.LegList.{found-all, found-lsp}
use Rattle.lsp_laws.specs.CallLaw.{CallsFit, IsOfOneCall, wants_call}

none-there : {X : Type 0} (xs : List X) (x : X) → length xs ≡ 0 → Contains xs x → ⊥
none-there [] x e there = contains-none x there
none-there (y ∷ xs) x e there = absurd (omega arith)

-- the one call that passes is found
one-found : (p : CallRec → Bool) (calls : List CallRec) (c : CallRec) → length (filter p calls) ≡ 1 →
    Contains calls c → p c ≡ true → find p calls ≡ Some c
one-found p [] c one there passes = absurd (contains-none c there)
one-found p (d ∷ calls) c one there passes = go (p d) refl one (λ fewer later. one-found p calls c fewer later passes)
  where
    go : (b : Bool) → p d ≡ b → length (cond b (d ∷ filter p calls) (filter p calls)) ≡ 1 →
        (length (filter p calls) ≡ 1 → Contains calls c → find p calls ≡ Some c) →
        cond b (Some d) (find p calls) ≡ Some c
    go true e one later = elim (contains-cases d c calls there) [
      | inl is ↦ ap Some is
      | inr more ↦ absurd (none-there (filter p calls) c (omega arith) (there-kept p calls c more passes))
    ]
    go false e one later = elim (contains-cases d c calls there) [
      | inl is ↦ (let other : p c ≡ false = subst (λ x. p x ≡ false) is e in absurd (cc (other, passes)))
      | inr more ↦ later one more
    ]

-- a leg that isn't torn is of the one call that names its LSP
pub call-is : (n : ℕ) (s : NodeState) (l : Lsp) (g : Leg) (c : CallRec) → CallsFit n s → Contains s.calls c →
    names l c ≡ true → l.ingress.0 ≡ n → find_leg l s.legs ≡ Some g → is_closing g.phase ≡ false →
    call_with l s.calls ≡ Some c
call-is n s l g c fits there named ingress here stands =
    let own : g.lsp ≡ l = found-lsp l s.legs g here in
    let wants : wants_call n g ≡ true = rw (own, ingress, stands) (rw (self-number n) refl) in
    let one : IsOfOneCall s.calls g =
    found-all (λ h. IsTrue (wants_call n h) → IsOfOneCall s.calls h) l s.legs g here
    (recursion_from_All (λ h. IsTrue (wants_call n h) → IsOfOneCall s.calls h) s.legs fits.legs) wants in
    one-found (names l) s.calls c
    (length-filter (names l) s.calls ∙ subst (λ k. IsOfOneCall s.calls (record g { lsp = k })) own one) there named

-- Marks that are cleared or set label by label.
use Rattle.std.proofs.{Common.{◌≡◌, ◌∙◌, ℕ, Bool, true, false, cond, nat_eq, refl, sym, ap, subst, eqb-true}, lemmas.Bool.{or_left, or_right}}
use Rattle.std.specs.Prelude.{◌||◌, ◌&&◌, Option, Some, None}
use Rattle.ason_base.specs.{declared.ids.Fibre.Fibre, declared.ids.Lsp.Lsp, declared.tables.Leg.Leg, Lsps.{is_lsp, same_fibre}}
use Rattle.link_owner.specs.{Marks.{is_lit, lit}, Owners.{DarkensJust, OwnerState}}
use Rattle.mesh_rules.specs.Legs.{is_at, reverse_of, sends_label, takes, uses}
use Rattle.mesh_nodes.proofs.LabelPlaces.{same_fibre-eq}
use Rattle.leg_labels.specs.LegMarks.{Darkens, Lights, darkened, lighted}

-- One label

darkened-twice : (l : Lsp) (p q : Bool) (m : Option Lsp) → darkened l q (darkened l p m) ≡ darkened l (p || q) m
darkened-twice l false q m = refl
darkened-twice l true false m = refl
darkened-twice l true true m = go (is_lsp m l) refl
  where
    go : (b : Bool) → is_lsp m l ≡ b → cond (is_lsp (cond b None m) l) None (cond b None m) ≡ cond b None m
    go true e = refl
    go false e = rw e refl

lighted-twice : (l : Lsp) (p q : Bool) (m : Option Lsp) → lighted l q (lighted l p m) ≡ lighted l (p || q) m
lighted-twice l false q m = refl
lighted-twice l true true m = refl
lighted-twice l true false m = refl

-- One change after the other

pub darkens-then : (l : Lsp) (p q : Fibre → ℕ → Bool) (a b c : OwnerState) → Darkens l p a b → Darkens l q b c →
    Darkens l (λ f x. p f x || q f x) a c
darkens-then l p q a b c first second = record {
  claims = second.claims ∙ first.claims;
  fibres = λ f. second.fibres f ∙ first.fibres f;
  lit = λ f x.
      second.lit f x
      ∙ ap (darkened l (q f x)) (first.lit f x)
      ∙ darkened-twice l (p f x) (q f x) (lit a.marks f x);
}

pub lights-then : (l : Lsp) (p q : Fibre → ℕ → Bool) (a b c : OwnerState) → Lights l p a b → Lights l q b c →
    Lights l (λ f x. p f x || q f x) a c
lights-then l p q a b c first second = record {
  claims = second.claims ∙ first.claims;
  fibres = λ f. second.fibres f ∙ first.fibres f;
  lit = λ f x.
      second.lit f x
      ∙ ap (lighted l (q f x)) (first.lit f x)
      ∙ lighted-twice l (p f x) (q f x) (lit a.marks f x);
}

-- One label of the owner's, which there may be or not

here : (f h : Fibre) (x y : ℕ) (P : Fibre → ℕ → Type 0) → same_fibre f h ≡ true → nat_eq x y ≡ true → P f x → P h y
here f h x y P fibre label p =
    subst (P h) (eqb-true x y label) (subst (λ g. P g x) (same_fibre-eq f h fibre) p)

darkens-one : (l : Lsp) (f : Fibre) (x : ℕ) (a b : OwnerState) → DarkensJust f x l a b →
    Darkens l (is_at (Some f) (Some x)) a b
darkens-one l f x a b just = record {
  claims = just.claims;
  fibres = just.fibres;
  lit = λ h y. just.lit h y ∙ go h y (same_fibre f h) (nat_eq x y) refl refl;
}
  where
    go : (h : Fibre) (y : ℕ) (p q : Bool) → same_fibre f h ≡ p → nat_eq x y ≡ q →
        cond (p && (q && is_lit a.marks f x l)) None (lit a.marks h y) ≡ darkened l (p && q) (lit a.marks h y)
    go h y true true e k =
        ap (λ t. cond t None (lit a.marks h y))
        (here f h x y (λ g z. is_lit a.marks f x l ≡ is_lit a.marks g z l) e k refl)
    go h y true false e k = refl
    go h y false q e k = refl

pub darkens-here : (l : Lsp) (o : Option Fibre) (label : Option ℕ) (f : Fibre) (x : ℕ) (a b : OwnerState) →
    o ≡ Some f → label ≡ Some x → DarkensJust f x l a b → Darkens l (is_at o label) a b
darkens-here l o label f x a b fibre is just =
    subst (λ i. Darkens l (is_at i label) a b) (sym fibre)
    (subst (λ y. Darkens l (is_at (Some f) y) a b) (sym is) (darkens-one l f x a b just))

-- The four labels of a leg

pub darkens-four : (l : Lsp) (g : Leg) (i j : Option Fibre) (a b c d e : OwnerState) → i ≡ reverse_of g.out_fibre →
    j ≡ reverse_of g.in_fibre → Darkens l (is_at g.in_fibre g.in_label) a b → Darkens l (is_at i g.back_in) b c →
    Darkens l (is_at g.out_fibre g.out_label) c d → Darkens l (is_at j g.back_out) d e →
    Darkens l (λ f x. uses f x g) a e
darkens-four l g i j a b c d e is is' one two three four =
    let two' = subst (λ k. Darkens l (is_at k g.back_in) b c) is two in
    let four' = subst (λ k. Darkens l (is_at k g.back_out) d e) is' four in
    darkens-then l (λ f x. takes f x g) (λ f x. sends_label f x g) a c e (darkens-then l _ _ a b c one two')
    (darkens-then l _ _ c d e three four')

pub lights-four : (l : Lsp) (g : Leg) (i j : Option Fibre) (a b c d e : OwnerState) → i ≡ reverse_of g.out_fibre →
    j ≡ reverse_of g.in_fibre → Lights l (is_at g.in_fibre g.in_label) a b → Lights l (is_at i g.back_in) b c →
    Lights l (is_at g.out_fibre g.out_label) c d → Lights l (is_at j g.back_out) d e → Lights l (λ f x. uses f x g) a e
lights-four l g i j a b c d e is is' one two three four =
    let two' = subst (λ k. Lights l (is_at k g.back_in) b c) is two in
    let four' = subst (λ k. Lights l (is_at k g.back_out) d e) is' four in
    lights-then l (λ f x. takes f x g) (λ f x. sends_label f x g) a c e (lights-then l _ _ a b c one two')
    (lights-then l _ _ c d e three four')

pub in-used : (g : Leg) (f : Fibre) (x : ℕ) → is_at g.in_fibre g.in_label f x ≡ true → uses f x g ≡ true
in-used g f x e = or_left (takes f x g) (sends_label f x g) (or_left (is_at g.in_fibre g.in_label f x) _ e)

pub back_in-used : (g : Leg) (i : Option Fibre) → i ≡ reverse_of g.out_fibre → (f : Fibre) (x : ℕ) →
    is_at i g.back_in f x ≡ true → uses f x g ≡ true
back_in-used g i is f x e =
    or_left (takes f x g) (sends_label f x g)
    (or_right (is_at g.in_fibre g.in_label f x) _ (sym (ap (λ k. is_at k g.back_in f x) is) ∙ e))

pub out-used : (g : Leg) (f : Fibre) (x : ℕ) → is_at g.out_fibre g.out_label f x ≡ true → uses f x g ≡ true
out-used g f x e = or_right (takes f x g) (sends_label f x g) (or_left (is_at g.out_fibre g.out_label f x) _ e)

pub back_out-used : (g : Leg) (j : Option Fibre) → j ≡ reverse_of g.in_fibre → (f : Fibre) (x : ℕ) →
    is_at j g.back_out f x ≡ true → uses f x g ≡ true
back_out-used g j is f x e =
    or_right (takes f x g) (sends_label f x g)
    (or_right (is_at g.out_fibre g.out_label f x) _ (sym (ap (λ k. is_at k g.back_out f x) is) ∙ e))

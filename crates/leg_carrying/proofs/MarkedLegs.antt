-- The marks of an LSP after its leg's were cleared, or set, and the legs that they fit.
use Rattle.std.proofs.Common.{◌≡◌, ◌∙◌, ℕ, Bool, true, false, cond, List, inl, inr, refl, sym, ap, subst}
use Rattle.std.specs.Prelude.{◌&&◌, ◌⊎◌, Option, Some, None}
use Rattle.ason_base.specs.{declared.ids.Fibre.Fibre, declared.ids.Lsp.Lsp, declared.tables.Leg.Leg, Lsps.{is_lsp, same_lsp}}
use Rattle.ason_base.proofs.Bools.{and-left, and-right}
use Rattle.link_owner.specs.{Marks.{has_fibre_marks, is_lit, lit}, Owners.OwnerState}
use Rattle.link_owner.proofs.LitFibres.{lit-there}
use Rattle.mesh_rules.specs.Legs.{find_leg, is_marked, uses, with_leg, without_leg}
use Rattle.mesh_nodes.proofs.LegList.{find-with_leg, find-without_leg, found-lsp, same_lsp-eq, same_lsp-refl}
use Rattle.leg_table.specs.LegClaims.{GetsMark, KeepsMark, MarksFit, MarksJust, MarksOfLeg, MayMark, is_marked_on}
use Rattle.leg_labels.proofs.Contention.{alone-open}
use Rattle.leg_labels.specs.LegMarks.{AreOpen, AreThere, Darkens, Lights, darkened, lighted}
use Rattle.leg_carrying.specs.LegHolds.{IsLegOfLsp}

-- Whose mark is there

same-back : (l m : Lsp) → same_lsp l m ≡ false → same_lsp m l ≡ true → ⊥
same-back l m apart same =
    let one : same_lsp l m ≡ true = subst (λ k. same_lsp k m ≡ true) (same_lsp-eq m l same) (same_lsp-refl m) in
    cc (apart, one)

-- one mark is of one LSP
one-mark : (w : Option Lsp) (l m : Lsp) → is_lsp w l ≡ true → is_lsp w m ≡ true → same_lsp m l ≡ true
one-mark None l m a b = absurd (cc a)
one-mark (Some k) l m a b = subst (λ n. same_lsp n l ≡ true) (same_lsp-eq k m b) a

no-mark : (w : Option Lsp) (l m : Lsp) → is_lsp w l ≡ true → same_lsp l m ≡ false → is_lsp w m ≡ false
no-mark w l m its apart = go (is_lsp w m) refl
  where
    go : (b : Bool) → is_lsp w m ≡ b → b ≡ false
    go true e = absurd (same-back l m apart (one-mark w l m its e))
    go false e = refl

-- The marks are of the leg of the LSP

pub cleared-just : (g : Leg) (l : Lsp) (o after : OwnerState) → is_marked g ≡ true → MarksOfLeg l (Some g) o →
    Darkens l (λ f x. uses f x g) o after → MarksJust l None o after
cleared-just g l o after so of darkens = record {
  claims = darkens.claims;
  fibres = darkens.fibres;
  lit = λ f x m.
      ap (λ w. is_lsp w m) (darkens.lit f x)
      ∙ ap (λ b. is_lsp (darkened l b (lit o.marks f x)) m) (sym (of f x ∙ ap (λ b. b && uses f x g) so))
      ∙ go f x m (same_lsp l m) (is_lit o.marks f x l) refl refl;
}
  where
    go : (f : Fibre) (x : ℕ) (m : Lsp) (s b : Bool) → same_lsp l m ≡ s → is_lit o.marks f x l ≡ b →
        is_lsp (cond (b && b) None (lit o.marks f x)) m ≡ cond s false (is_lit o.marks f x m)
    go f x m true true s b = refl
    go f x m true false s b = subst (λ k. is_lit o.marks f x k ≡ false) (same_lsp-eq l m s) b
    go f x m false true s b = sym (no-mark (lit o.marks f x) l m b s)
    go f x m false false s b = refl

pub marked-just : (g : Leg) (o after : OwnerState) → is_marked g ≡ true → MarksOfLeg g.lsp None o →
    AreOpen o.marks g.lsp (λ f x. is_marked_on f x (Some g)) → Lights g.lsp (λ f x. uses f x g) o after →
    MarksJust g.lsp (Some g) o after
marked-just g o after so none free lights = record {
  claims = lights.claims;
  fibres = lights.fibres;
  lit = λ f x m.
      ap (λ w. is_lsp w m) (lights.lit f x) ∙ go f x m (uses f x g) (same_lsp g.lsp m) refl refl
      ∙ ap (λ b. cond (same_lsp g.lsp m) (b && uses f x g) (is_lit o.marks f x m)) (sym so);
}
  where
    other : (f : Fibre) (x : ℕ) (m : Lsp) (b : Bool) → is_lit o.marks f x m ≡ b → uses f x g ≡ true →
        same_lsp g.lsp m ≡ false → b ≡ false
    other f x m true e used apart = absurd (same-back g.lsp m apart (free f x m (rw (so, used) refl) e))
    other f x m false e used apart = refl

    go : (f : Fibre) (x : ℕ) (m : Lsp) (b s : Bool) → uses f x g ≡ b → same_lsp g.lsp m ≡ s →
        is_lsp (lighted g.lsp b (lit o.marks f x)) m ≡ cond s b (is_lit o.marks f x m)
    go f x m true true used s = s
    go f x m true false used s = s ∙ sym (other f x m (is_lit o.marks f x m) refl used s)
    go f x m false true used s = subst (λ k. is_lit o.marks f x k ≡ false) (same_lsp-eq g.lsp m s) (none f x)
    go f x m false false used s = refl

-- The marks of all legs

-- the leg that is found is the LSP's
pub found-its : (l : Lsp) (legs : List Leg) (k : Option Leg) → k ≡ find_leg l legs → IsLegOfLsp l k
found-its l legs None e = tt
found-its l legs (Some g) e = found-lsp l legs g (sym e)

pub marks-without : (l : Lsp) (legs : List Leg) (o after : OwnerState) → MarksFit legs o → MarksJust l None o after →
    MarksFit (without_leg l legs) after
marks-without l legs o after fit just f x m =
    just.lit f x m ∙ ap (cond (same_lsp l m) false) (fit f x m) ∙ go (same_lsp l m)
    ∙ ap (is_marked_on f x) (sym (find-without_leg l legs m))
  where
    go : (b : Bool) → cond b false (is_marked_on f x (find_leg m legs)) ≡
        is_marked_on f x (cond b None (find_leg m legs))
    go true = refl
    go false = refl

pub marks-with : (g : Leg) (legs : List Leg) (o after : OwnerState) → MarksFit legs o →
    MarksJust g.lsp (Some g) o after → MarksFit (with_leg g legs) after
marks-with g legs o after fit just f x m =
    just.lit f x m ∙ ap (cond (same_lsp g.lsp m) (is_marked_on f x (Some g))) (fit f x m) ∙ go (same_lsp g.lsp m)
    ∙ ap (is_marked_on f x) (sym (find-with_leg g legs m))
  where
    go : (b : Bool) → cond b (is_marked_on f x (Some g)) (is_marked_on f x (find_leg m legs)) ≡
        is_marked_on f x (cond b (Some g) (find_leg m legs))
    go true = refl
    go false = refl

-- A leg that may be marked

module _ (g : Leg) (legs : List Leg) (o : OwnerState) (fit : MarksFit legs o)
    (may : MayMark (has_fibre_marks o.marks) legs g) where
  abbrev on : Fibre → ℕ → Bool
  on f x = is_marked_on f x (Some g)

  -- the LSP's mark is on the label already
  kept : KeepsMark legs g → (f : Fibre) (x : ℕ) → uses f x g ≡ true → is_lit o.marks f x g.lsp ≡ true
  kept keeps f x used =
      fit f x g.lsp ∙ ap (is_marked_on f x) keeps.there ∙ rw (keeps.marked, keeps.uses f x used) refl

  -- its labels are of the node's fibres
  pub there-of : AreThere o.marks on
  there-of f x e = go (may (and-left (is_marked g) (uses f x g) e))
    where
      used : uses f x g ≡ true
      used = and-right (is_marked g) (uses f x g) e

      there : (w : Option Lsp) → lit o.marks f x ≡ w → is_lsp w g.lsp ≡ true → has_fibre_marks o.marks f ≡ true
      there None is h = absurd (cc h)
      there (Some k) is h = lit-there o.marks f x k is

      go : KeepsMark legs g ⊎ GetsMark (has_fibre_marks o.marks) legs g → has_fibre_marks o.marks f ≡ true
      go (inl keeps) = there (lit o.marks f x) refl (kept keeps f x used)
      go (inr gets) = gets.over f x used

  -- and no other LSP's mark is on them
  pub open-of : AreOpen o.marks g.lsp on
  open-of f x m e h = go (may (and-left (is_marked g) (uses f x g) e))
    where
      used : uses f x g ≡ true
      used = and-right (is_marked g) (uses f x g) e

      go : KeepsMark legs g ⊎ GetsMark (has_fibre_marks o.marks) legs g → same_lsp m g.lsp ≡ true
      go (inl keeps) = one-mark (lit o.marks f x) g.lsp m (kept keeps f x used) h
      go (inr gets) = alone-open legs o fit g gets.alone f x m used h

-- a marked leg that has its marks is over the node's fibres
pub there-marked : (g : Leg) (l : Lsp) (o : OwnerState) → is_marked g ≡ true → MarksOfLeg l (Some g) o →
    AreThere o.marks (λ f x. uses f x g)
there-marked g l o so of f x used = go (lit o.marks f x) refl (of f x ∙ rw (so, used) refl)
  where
    go : (w : Option Lsp) → lit o.marks f x ≡ w → is_lsp w l ≡ true → has_fibre_marks o.marks f ≡ true
    go None is h = absurd (cc h)
    go (Some k) is h = lit-there o.marks f x k is

-- so too after the LSP's marks are cleared
pub open-after : (l : Lsp) (a b : OwnerState) (on : Fibre → ℕ → Bool) → MarksJust l None a b → AreOpen a.marks l on →
    AreOpen b.marks l on
open-after l a b on just free f x m e h = go (same_lsp l m) (sym (just.lit f x m) ∙ h)
  where
    go : (s : Bool) → cond s false (is_lit a.marks f x m) ≡ true → same_lsp m l ≡ true
    go true h = absurd (cc h)
    go false h = free f x m e h

-- claims that change keep the marks
pub same-marks : (legs : List Leg) (o after : OwnerState) → after.marks ≡ o.marks → MarksFit legs o → MarksFit legs after
same-marks legs o after same fit =
    subst (λ marks. MarksFit legs (record { claims = after.claims; marks = marks })) (sym same) fit

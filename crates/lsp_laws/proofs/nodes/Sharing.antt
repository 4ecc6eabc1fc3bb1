-- Which legs may share a label of a node: what is usable for a leg, and what its LSP's leg took.
use Rattle.std.proofs.{Common.{◌≡◌, ℕ, Bool, true, false, cond, not, List, [], ◌∷◌, refl, sym, subst, ◌∙◌}, lemmas.Bool.not-true}
use Rattle.std.specs.{Prelude.{◌||◌, ◌&&◌, Some}, List.list_any}
use Rattle.ason_base.specs.{declared.calls.Role.Role, declared.calls.Role.TheVariants.{Work, Back}, declared.ids.Fibre.Fibre, declared.ids.Lsp.Lsp, declared.risks.Risk.Risk, declared.tables.Leg.Leg, Lsps.same_lsp, Risks.{AreDisjoint, have_common}}
use Rattle.ason_base.proofs.{RiskOrder.{disjoint-flip, there-common}, Bools.{and-left, and-right}}
use Rattle.mesh_rules.specs.Legs.{find_leg, is_apart, is_free, is_shareable, is_usable, is_work, takes}
use Rattle.mesh_nodes.proofs.LegList.{found-lsp}
use Rattle.lsp_laws.specs.LabelLaw.{MayShare}

pub may_share-flip : (g h : Leg) → MayShare g h → MayShare h g
may_share-flip g h s =
    record { backups = (s.backups.1, s.backups.0); apart = disjoint-flip g.risks h.risks s.apart }

-- no leg of the list passes a test, so none that is found does
pub none-found : (q : Leg → Bool) (m : Lsp) (legs : List Leg) (h : Leg) → not (list_any q legs) ≡ true →
    find_leg m legs ≡ Some h → q h ≡ true → ⊥
none-found q m [] h none found passes = cc
none-found q m (g ∷ legs) h none found passes =
    go (q g) (same_lsp g.lsp m) refl none found (none-found q m legs h)
  where
    go : (b c : Bool) → q g ≡ b → not (b || list_any q legs) ≡ true → cond c (Some g) (find_leg m legs) ≡ Some h →
        (not (list_any q legs) ≡ true → find_leg m legs ≡ Some h → q h ≡ true → ⊥) → ⊥
    go true c e none found later = cc none
    go false true e none found later =
        let is : g ≡ h = cc found in let no : q h ≡ false = subst (λ y. q y ≡ false) is e in cc (no, passes)
    go false false e none found later = later none found passes

-- a leg that takes a free label is not there
pub free-not_taken : (f : Fibre) (x : ℕ) (legs : List Leg) (m : Lsp) (h : Leg) → is_free legs f x ≡ true →
    find_leg m legs ≡ Some h → takes f x h ≡ true → ⊥
free-not_taken f x legs m h free found this = none-found (takes f x) m legs h free found this

-- a leg that takes a label that may be shared is a backup without a common risk
shareable-apart : (risks : List Risk) (legs : List Leg) (f : Fibre) (x : ℕ) (m : Lsp) (h : Leg) →
    is_shareable risks legs f x ≡ true → find_leg m legs ≡ Some h → takes f x h ≡ true → is_apart risks h ≡ true
shareable-apart risks legs f x m h shareable found this = go (is_apart risks h) refl
  where
    go : (b : Bool) → is_apart risks h ≡ b → b ≡ true
    go true e = refl
    go false e =
        absurd (none-found (λ g. takes f x g && not (is_apart risks g)) m legs h shareable found (rw (this, e) refl))

pub back-of : (r : Role) → not (is_work r) ≡ true → r ≡ Back
back-of Work e = absurd (cc e)
back-of Back e = refl

apart-of : (a b : List Risk) → have_common a b ≡ false → AreDisjoint a b
apart-of a b none r in_a in_b = let common = there-common a b r in_a in_b in cc (common, none)

-- a leg of this role may share a label that is usable for it with each leg that takes it
usable-shares : (g : Leg) (r : Role) (legs : List Leg) (f : Fibre) (x : ℕ) (m : Lsp) (h : Leg) → g.role ≡ r →
    is_usable r g.risks legs f x ≡ true → find_leg m legs ≡ Some h → takes f x h ≡ true → MayShare g h
usable-shares g Work legs f x m h role usable found this = absurd (free-not_taken f x legs m h usable found this)
usable-shares g Back legs f x m h role usable found this =
    let apart : is_apart g.risks h ≡ true = shareable-apart g.risks legs f x m h usable found this in
    record {
      backups = (role, back-of h.role (and-left (not (is_work h.role)) _ apart));
      apart =
          apart-of g.risks h.risks (not-true (have_common g.risks h.risks) (and-right (not (is_work h.role)) _ apart));
    }

-- Legs that take what was taken

-- among these legs the one of this leg's LSP has its role and its risks, and takes the label
pub record TookBefore (legs : List Leg) (g : Leg) (f : Fibre) (x : ℕ) : Type 0 where
  pub leg : Leg
  pub found : find_leg g.lsp legs ≡ Some leg
  pub role : leg.role ≡ g.role
  pub risks : leg.risks ≡ g.risks
  pub took : takes f x leg ≡ true

-- what these legs take was taken among those that were read
abbrev pub TakeOnlyRead : List Leg → List Leg → Type 0
TakeOnlyRead read legs =
    (m : Lsp) (h : Leg) (f : Fibre) (x : ℕ) → find_leg m legs ≡ Some h → takes f x h ≡ true → TookBefore read h f x

pub take-same : (legs : List Leg) → TakeOnlyRead legs legs
take-same legs m h f x found this =
    record {
      leg = h;
      found = subst (λ l. find_leg l legs ≡ Some h) (sym (found-lsp m legs h found)) found;
      role = refl;
      risks = refl;
      took = this;
    }

-- a leg may share a label that is usable for it among those that were read
pub read-shares : (read legs : List Leg) (g : Leg) (f : Fibre) (x : ℕ) (m : Lsp) (h : Leg) → TakeOnlyRead read legs →
    is_usable g.role g.risks read f x ≡ true → find_leg m legs ≡ Some h → takes f x h ≡ true → MayShare g h
read-shares read legs g f x m h less usable found this =
    let was = less m h f x found this in
    let may = usable-shares g g.role read f x h.lsp was.leg refl usable was.found was.took in
    record {
      backups = (may.backups.0, sym was.role ∙ may.backups.1);
      apart = subst (AreDisjoint g.risks) was.risks may.apart;
    }

-- The labels that a leg gives up at the owner and at the shares, one after the other: those that the leg after doesn't
-- take.
use Rattle.std.proofs.Common.{◌≡◌, ℕ, Bool, true, false, cond, not, List, refl, sym, ap, subst, ◌∙◌, eqb-true}
use Rattle.std.specs.Prelude.{◌&&◌, ◌||◌, Option, Some, None, IfSome}
use Rattle.ason_base.specs.{Lsps.{same_fibre, same_lsp}, declared.ids.Fibre.Fibre, declared.ids.Lsp.Lsp, declared.tables.Leg.Leg}
use Rattle.ason_base.proofs.Bools.{and-left, and-right}
use Rattle.link_owner.specs.{Claims.{FibreClaims, freed}, Owners.{OwnerState, claims_of, label_freed}}
use Rattle.share_check.specs.Guards.{Guard, GuardsNone}
use Rattle.mesh_rules.specs.Legs.{is_at, reverse_of}
use Rattle.mesh_nodes.proofs.LabelPlaces.{none-at}
use Rattle.leg_table.specs.{declared.labels.TakenLabel.TakenLabel, LegClaims.{SameFibres, is_this, takes_of}, TakenLabels.{taken_back, taken_in, taken_over}}
use Rattle.leg_table.proofs.{OwnerFibres.{comes-kept, labels-kept, same_fibre-eq}, TakenLabels.{back-takes, in-takes}}
use Rattle.leg_carrying.proofs.GivenUp.{both, gives-same, gives-then}
use Rattle.leg_carrying.specs.LegHolds.{GivesUp, MayGiveUp, MayGiveUpAll, is_lost, is_lost_at, is_taken}

-- One label

this-fibre : (t : TakenLabel) (f : Fibre) (x : ℕ) → is_this t f x ≡ true → t.fibre ≡ f
this-fibre t f x e = same_fibre-eq t.fibre f (and-left (same_fibre t.fibre f) _ e)

this-label : (t : TakenLabel) (f : Fibre) (x : ℕ) → is_this t f x ≡ true → t.label ≡ x
this-label t f x e = eqb-true t.label x (and-right (same_fibre t.fibre f) _ e)

-- what is so of the label is so of this one
pub this-to : (P : Fibre → ℕ → Type 0) (t : TakenLabel) (f : Fibre) (x : ℕ) → is_this t f x ≡ true →
    P t.fibre t.label → P f x
this-to P t f x e p =
    subst (λ y. P f y) (this-label t f x e) (subst (λ k. P k t.label) (this-fibre t f x e) p)

-- the leg after doesn't take it: it is lost
pub lost-this : (t : TakenLabel) (after : Option Leg) → not (takes_of t.fibre t.label after) ≡ true → (f : Fibre)
    (x : ℕ) → is_this t f x ≡ is_lost_at (Some t) after f x
lost-this t after left f x = go (is_this t f x) refl
  where
    go : (b : Bool) → is_this t f x ≡ b → b ≡ (b && not (takes_of f x after))
    go true e = sym (this-to (λ f x. not (takes_of f x after) ≡ true) t f x e left)
    go false e = refl

-- it takes it: it isn't
pub kept-this : (t : TakenLabel) (after : Option Leg) → not (takes_of t.fibre t.label after) ≡ false → (f : Fibre)
    (x : ℕ) → is_lost_at (Some t) after f x ≡ false
kept-this t after left f x = go (is_this t f x) refl
  where
    go : (b : Bool) → is_this t f x ≡ b → (b && not (takes_of f x after)) ≡ false
    go true e = this-to (λ f x. not (takes_of f x after) ≡ false) t f x e left
    go false e = refl

-- Fibres

pub fibres-refl : (o : OwnerState) → SameFibres o o
fibres-refl o = record { fibres = λ f. refl; labels = λ f. refl; marked = λ f. refl }

pub fibres-then : (a b c : OwnerState) → SameFibres a b → SameFibres b c → SameFibres a c
fibres-then a b c first second = record {
  fibres = λ f. second.fibres f ∙ first.fibres f;
  labels = λ f. second.labels f ∙ first.labels f;
  marked = λ f. second.marked f ∙ first.marked f;
}

pub freed-fibres : (f : Fibre) (x : ℕ) (l : Lsp) (o : OwnerState) →
    SameFibres o (record o { claims = label_freed f x l o.claims })
freed-fibres f x l o = record {
  fibres = λ g. comes-kept f g (freed x l (claims_of f o.claims)) o.claims;
  labels = λ g. labels-kept f g (freed x l (claims_of f o.claims)) o.claims;
  marked = λ g. refl;
}

-- Both labels

-- each is one that the leg takes
pub in-may : (g : Leg) (o : OwnerState) (s : List Guard) → MayGiveUpAll (Some g) o s →
    IfSome (taken_in g) (λ t. MayGiveUp g o s t.fibre t.label)
in-may g o s all = go (taken_in g) refl
  where
    go : (t : Option TakenLabel) → taken_in g ≡ t → IfSome t (λ t. MayGiveUp g o s t.fibre t.label)
    go None e = tt
    go (Some t) e = all t.fibre t.label (in-takes g t e)

-- the second one too, after the first was given up
pub back-may : (g : Leg) (o after : OwnerState) (s left : List Guard) (lost : Fibre → ℕ → Bool) →
    MayGiveUpAll (Some g) o s → GivesUp g.lsp lost o.claims after.claims s left → SameFibres o after →
    IfSome (taken_back g) (λ t. MayGiveUp g after left t.fibre t.label)
back-may g o after s left lost all gives fibres = go (taken_back g) refl
  where
    none : (f : Fibre) (x : ℕ) → GuardsNone s f x g.lsp → GuardsNone left f x g.lsp
    none f x was q =
        gives.guards f x g.lsp q ∙ ap (cond (lost f x && same_lsp g.lsp g.lsp) false) (was q)
        ∙ same (lost f x && same_lsp g.lsp g.lsp)
      where
        same : (b : Bool) → cond b false false ≡ false
        same true = refl
        same false = refl

    go : (t : Option TakenLabel) → taken_back g ≡ t → IfSome t (λ t. MayGiveUp g after left t.fibre t.label)
    go None e = tt
    go (Some t) e =
        let may = all t.fibre t.label (back-takes g t e) in
        record {
          comes_in = fibres.fibres t.fibre ∙ may.comes_in;
          works = λ work. none t.fibre t.label (may.works work);
        }

over-at : (i : Option Fibre) (y : Option ℕ) (f : Fibre) (x : ℕ) → is_taken (taken_over i y) f x ≡ is_at i y f x
over-at None y f x = refl
over-at (Some g) None f x = sym (none-at (Some g) f x)
over-at (Some g) (Some y) f x = refl

pub gives-both : (g : Leg) (after : Option Leg) (o1 o2 o3 : List FibreClaims) (s1 s2 s3 : List Guard) →
    GivesUp g.lsp (is_lost_at (taken_in g) after) o1 o2 s1 s2 →
    GivesUp g.lsp (is_lost_at (taken_back g) after) o2 o3 s2 s3 →
    GivesUp g.lsp (is_lost (Some g) after) o1 o3 s1 s3
gives-both g after o1 o2 o3 s1 s2 s3 first second =
    gives-same g.lsp (λ f x. is_lost_at (taken_in g) after f x || is_lost_at (taken_back g) after f x)
    (is_lost (Some g) after) o1 o3 s1 s3
    (λ f x.
    both (is_taken (taken_in g) f x) (is_taken (taken_back g) f x) (not (takes_of f x after))
    ∙ ap (λ a. (a || is_taken (taken_back g) f x) && not (takes_of f x after)) (over-at g.in_fibre g.in_label f x)
    ∙ ap (λ b. (is_at g.in_fibre g.in_label f x || b) && not (takes_of f x after))
    (over-at (reverse_of g.out_fibre) g.back_in f x))
    (gives-then g.lsp (is_lost_at (taken_in g) after) (is_lost_at (taken_back g) after) o1 o2 o3 s1 s2 s3 first second)

-- What the legs of a node hold, and the claims and the guards that fit it.
use Rattle.std.proofs.Common.{◌≡◌, ℕ, Bool, true, false, cond, List, refl, sym, ap, subst, ◌∙◌}
use Rattle.std.specs.Prelude.{◌&&◌, [], Option, Some, None}
use Rattle.ason_base.specs.{Risks.has_risk, declared.ids.Fibre.Fibre, declared.ids.Lsp.Lsp, declared.risks.Risk.Risk, declared.tables.Leg.Leg}
use Rattle.ason_base.proofs.Members.{all-then}
use Rattle.link_owner.specs.Owners.{OwnerState, claims_of}
use Rattle.share_check.specs.Guards.{Guard}
use Rattle.mesh_rules.specs.Legs.{find_leg, is_work, takes}
use Rattle.leg_table.specs.LegClaims.{ClaimsFit, GuardsFit, IsClaimOfLeg, LabelsFit, MarksFit, claim_kind, guards_here, kind_here, takes_of}
use Rattle.leg_carrying.specs.LegHolds.{AreHeld, ClaimsHold, GuardsHold, Hold, guards_held, held_by, held_of, hold_of, kind_held}

-- Where the same is held

pub same-held : (h k : Fibre → ℕ → Lsp → Option Hold) (o : OwnerState) (s : List Guard) →
    ((f : Fibre) (x : ℕ) (l : Lsp) → h f x l ≡ k f x l) → AreHeld h o s → AreHeld k o s
same-held h k o s e = subst (λ j. AreHeld j o s) (λ i f x l. e f x l i)

-- What a leg holds

pub held-here : (f : Fibre) (x : ℕ) (g : Leg) → takes f x g ≡ true → held_by f x (Some g) ≡ Some (hold_of g)
held-here f x g t = rw t refl

-- one that doesn't take the label doesn't hold it
pub bare-held : (f : Fibre) (x : ℕ) (o : Option Leg) → takes_of f x o ≡ false → held_by f x o ≡ None
bare-held f x None e = refl
bare-held f x (Some g) e = rw e refl

-- it takes what it holds
pub held-leg : (f : Fibre) (x : ℕ) (o : Option Leg) (k : Hold) → held_by f x o ≡ Some k →
    (g : Leg) × (o ≡ Some g) × (takes f x g ≡ true)
held-leg f x None k e = absurd (cc e)
held-leg f x (Some g) k e = go (takes f x g) refl e
  where
    go : (b : Bool) → takes f x g ≡ b → cond b (Some (hold_of g)) None ≡ Some k →
        (h : Leg) × (Some g ≡ Some h) × (takes f x h ≡ true)
    go true t e = (g, refl, t)
    go false t e = absurd (cc e)

kind-is : (f : Fibre) (x : ℕ) (o : Option Leg) → kind_held (held_by f x o) ≡ kind_here f x o
kind-is f x None = refl
kind-is f x (Some g) = go (takes f x g)
  where
    go : (b : Bool) → kind_held (cond b (Some (hold_of g)) None) ≡ cond b (Some (claim_kind g.role)) None
    go true = refl
    go false = refl

guards-is : (f : Fibre) (x : ℕ) (q : Risk) (o : Option Leg) → guards_held q (held_by f x o) ≡ guards_here f x q o
guards-is f x q None = refl
guards-is f x q (Some g) = go (takes f x g)
  where
    go : (b : Bool) → guards_held q (cond b (Some (hold_of g)) None) ≡
        (b && has_risk (cond (is_work g.role) [] g.risks) q)
    go true = refl
    go false = refl

-- The claims and the guards of legs

pub claims-to : (legs : List Leg) (o : OwnerState) → ClaimsFit legs o → ClaimsHold (held_of legs) o.claims
claims-to legs o fit = record {
  each = λ f.
      all-then (IsClaimOfLeg legs f) (λ c. kind_held (held_of legs f c.label c.lsp) ≡ Some c.kind) (claims_of f o.claims)
      (λ c e. kind-is f c.label (find_leg c.lsp legs) ∙ e) (fit.each f);
  all = λ f x l k e. let (g, found, t) = held-leg f x (find_leg l legs) k e in fit.all f x l g found t;
  within = λ f x l k e. let (g, found, t) = held-leg f x (find_leg l legs) k e in fit.within f x l g found t;
}

leg-held : (legs : List Leg) (f : Fibre) (x : ℕ) (l : Lsp) (g : Leg) → find_leg l legs ≡ Some g → takes f x g ≡ true →
    held_of legs f x l ≡ Some (hold_of g)
leg-held legs f x l g found t = ap (held_by f x) found ∙ held-here f x g t

pub claims-from : (legs : List Leg) (o : OwnerState) → ClaimsHold (held_of legs) o.claims → MarksFit legs o →
    ClaimsFit legs o
claims-from legs o hold marks = record {
  each = λ f.
      all-then (λ c. kind_held (held_of legs f c.label c.lsp) ≡ Some c.kind) (IsClaimOfLeg legs f) (claims_of f o.claims)
      (λ c e. sym (kind-is f c.label (find_leg c.lsp legs)) ∙ e) (hold.each f);
  all = λ f x l g found t. hold.all f x l (hold_of g) (leg-held legs f x l g found t);
  within = λ f x l g found t. hold.within f x l (hold_of g) (leg-held legs f x l g found t);
  marks = marks;
}

pub guards-to : (legs : List Leg) (s : List Guard) → GuardsFit legs s → GuardsHold (held_of legs) s
guards-to legs s fit f x l q = fit.each f x l q ∙ sym (guards-is f x q (find_leg l legs))

pub guards-from : (legs : List Leg) (s : List Guard) → GuardsHold (held_of legs) s → GuardsFit legs s
guards-from legs s hold = record { each = λ f x l q. hold f x l q ∙ guards-is f x q (find_leg l legs) }

pub held-of : (legs : List Leg) (o : OwnerState) (s : List Guard) → LabelsFit legs o s → AreHeld (held_of legs) o s
held-of legs o s fit = record { claims = claims-to legs o fit.claims; guards = guards-to legs s fit.guards }

pub fit-of : (legs : List Leg) (o : OwnerState) (s : List Guard) → AreHeld (held_of legs) o s → MarksFit legs o →
    LabelsFit legs o s
fit-of legs o s held marks =
    record { claims = claims-from legs o held.claims marks; guards = guards-from legs s held.guards }

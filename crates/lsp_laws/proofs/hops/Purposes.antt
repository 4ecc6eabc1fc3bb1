-- What an LSP is for, and what of its messages fits that at a hop.
use Rattle.std.proofs.Common.{◌≡◌, ℕ, suc, Bool, true, false, List, [], ◌∷◌, ◌++◌, drop, refl}
use Rattle.std.specs.Prelude.{◌⊎◌, Option, Some, None}
use Rattle.ason_base.specs.{Labels.has, declared.calls.Phase.TheVariants.Asked, declared.calls.Role.Role, declared.messages.PathRole.PathRole, declared.messages.PathRole.TheVariants.{Work, Back}, declared.messages.Msg.Msg, declared.messages.Msg.TheVariants.{Path, Resv, PathTear}, declared.steps.Step.Step, declared.tables.Leg.Leg}
use Rattle.ason_base.specs.declared.calls.Role.TheVariants as role
use Rattle.mesh_rules.specs.{Legs.is_closing, Paths.{is_active, role_of as asked_role}}
use Rattle.lsp_laws.specs.HopShapes.{LegKind, NoLeg, AskedLeg, PlainPath, leg_kind, path_kind}
use Rattle.lsp_laws.proofs.{hops.Plans.{Plan, link_at}, hops.RowStates.is_reserved}

-- What an LSP is for: it carries a call, or it guards the working LSP of this number, which has this whole route.
pub data Purpose : Type 0 where
  Carries : Purpose
  Guards : ℕ → List Step → Purpose

abbrev pub purpose_role : Purpose → Role
purpose_role Carries = role.Work
purpose_role (Guards work route) = role.Back

-- the role that a Path or a leg tells is this purpose's
abbrev pub Tells : Purpose → PathRole → Type 0
Tells Carries (Work guard) = Unit {0}
Tells Carries (Back active work primary) = ⊥
Tells (Guards w route) (Work guard) = ⊥
Tells (Guards w route) (Back active work primary) = (work ≡ w) × (primary ≡ route)

pub plain_inactive : (r : PathRole) → path_kind r ≡ PlainPath → is_active r ≡ false
plain_inactive (Work guard) plain = refl
plain_inactive (Back true work primary) plain = absurd cc
plain_inactive (Back false work primary) plain = refl

pub tells_role : (q : Purpose) (r : PathRole) → Tells q r → asked_role r ≡ purpose_role q
tells_role Carries (Work guard) tells = refl
tells_role Carries (Back active work primary) tells = absurd tells
tells_role (Guards w route) (Work guard) tells = absurd tells
tells_role (Guards w route) (Back active work primary) tells = refl

-- Messages

abbrev pub Each : (Msg → Type 0) → List Msg → Type 0
Each Q [] = Unit {0}
Each Q (m ∷ ms) = Q m × Each Q ms

pub each-append : (Q : Msg → Type 0) (xs ys : List Msg) → Each Q xs → Each Q ys → Each Q (xs ++ ys)
each-append Q [] ys h k = k
each-append Q (x ∷ xs) ys h k = (h.0, each-append Q xs ys h.1 k)

pub each-map : (P Q : Msg → Type 0) (xs : List Msg) → ((m : Msg) → P m → Q m) → Each P xs → Each Q xs
each-map P Q [] f h = tt
each-map P Q (x ∷ xs) f h = (f x h.0, each-map P Q xs f h.1)

pub each-any : (Q : Msg → Type 0) (xs : List Msg) → ((m : Msg) → Q m) → Each Q xs
each-any Q [] f = tt
each-any Q (x ∷ xs) f = (f x, each-any Q xs f)

-- what a message down the hop has
abbrev pub DownFits : Purpose → Plan → ℕ → Msg → Type 0
DownFits q p i (Path l e k route set up r) =
    (e ≡ p.egress) × (k ≡ link_at p i) × (route ≡ drop (suc i) p.route) × Tells q r
DownFits q p i (PathTear l e k) = k ≡ link_at p i
DownFits q p i _ = Unit {0}

-- and up: no Path
abbrev pub UpFits : Plan → ℕ → Msg → Type 0
UpFits p i (Path l e k route set up r) = ⊥
UpFits p i (Resv l e k x) = k ≡ link_at p i
UpFits p i _ = Unit {0}

abbrev pub is_path : Msg → Bool
is_path (Path l e k route set up r) = true
is_path _ = false

abbrev pub has_path : List Msg → Bool
has_path [] = false
has_path (Path l e k route set up r ∷ ms) = true
has_path (_ ∷ ms) = has_path ms

-- Labels over a hop

-- a label of a leg, where there is one
abbrev label_of : (Leg → Option ℕ) → Option Leg → Option ℕ
label_of label None = None
label_of label (Some g) = label g

abbrev pub out_label_of : Option Leg → Option ℕ
out_label_of o = label_of (λ g. g.out_label) o

abbrev pub in_label_of : Option Leg → Option ℕ
in_label_of o = label_of (λ g. g.in_label) o

abbrev pub back_in_of : Option Leg → Option ℕ
back_in_of o = label_of (λ g. g.back_in) o

abbrev pub back_out_of : Option Leg → Option ℕ
back_out_of o = label_of (λ g. g.back_out) o

abbrev pub LabelsMeet : Option ℕ → Option ℕ → Type 0
LabelsMeet None y = Unit {0}
LabelsMeet (Some x) None = Unit {0}
LabelsMeet (Some x) (Some y) = x ≡ y

-- the label is in the set that was sent on
abbrev pub SentOn : Option Leg → ℕ → Type 0
SentOn None x = Unit {0}
SentOn (Some g) x = has g.sent x ≡ true

-- while d is Asked, what it was offered was sent on
abbrev pub OfferSent : Option Leg → Option Leg → Type 0
OfferSent None d = Unit {0}
OfferSent (Some g) None = Unit {0}
OfferSent (Some g) (Some h) = h.phase ≡ Asked → (x : ℕ) → has h.offered x ≡ true → has g.sent x ≡ true

abbrev pub PathHasSet : List ℕ → Msg → Type 0
PathHasSet sent (Path l e k route set up r) = set ≡ sent
PathHasSet sent _ = Unit {0}

-- the set of a Path down is the one that was sent on
abbrev pub SetSent : Option Leg → Msg → Type 0
SetSent None m = Unit {0}
SetSent (Some g) m = PathHasSet g.sent m

-- the label of a Resv up is d's label in, while d is beyond Asked, and was sent on
abbrev pub UpMsgFits : Option Leg → Option Leg → Msg → Type 0
UpMsgFits u d (Resv l e k x) = is_reserved (leg_kind d) ≡ true → (in_label_of d ≡ Some x) × SentOn u x
UpMsgFits u d _ = Unit {0}

-- The way back over a hop

-- until d lets go, its label for the way back is the one that u takes; both have none where the LSP is one-way
abbrev pub BackMeets : Option Leg → Option Leg → Type 0
BackMeets u None = Unit {0}
BackMeets u (Some h) = is_closing h.phase ≡ false → h.back_out ≡ back_in_of u

-- a Path down brings that label; no Resv goes down
abbrev pub HasUpstream : Option ℕ → Msg → Type 0
HasUpstream b (Path l e k route set up r) = up ≡ b
HasUpstream b (Resv l e k x) = ⊥
HasUpstream b _ = Unit {0}

-- d hasn't answered yet: the first Path is on the hop, or d is Asked
abbrev pub IsPending : LegKind → List Msg → Type 0
IsPending d down = ((d ≡ NoLeg) × (has_path down ≡ true)) ⊎ (d ≡ AskedLeg)

pub record Rest (q : Purpose) (p : Plan) (i : ℕ) (u d : Option Leg) (down up : List Msg) : Type 0 where
  pub going_down : Each (DownFits q p i) down
  pub going_up : Each (UpFits p i) up
  pub labels : LabelsMeet (out_label_of u) (in_label_of d)
  pub answers : Each (UpMsgFits u d) up
  pub offer : OfferSent u d
  pub sets : Each (SetSent u) down
  -- until d answers, u has no label out
  pub bare : IsPending (leg_kind d) down → out_label_of u ≡ None
  pub back : BackMeets u d
  pub upstream : Each (HasUpstream (back_in_of u)) down

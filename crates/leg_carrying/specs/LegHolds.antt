-- Which labels of a node's fibres its LSPs hold, each by the leg that takes them, and the one that changes of legs take
-- newly.
use Rattle.std.specs.{Prelude.{ℕ, ◌≡◌, ◌≤◌, ◌&&◌, Bool, true, false, not, List, [], ◌∷◌, filter, Option, Some, None, IfSome, IsTrue, if◌then◌else◌}, List.AllByRecursion}
use Rattle.ason_base.specs.{Lsps.same_lsp, Risks.has_risk, declared.calls.Role.Role, declared.ids.Fibre.Fibre, declared.ids.Lsp.Lsp, declared.risks.Risk.Risk, declared.tables.Leg.Leg}
use Rattle.link_owner.specs.{Claims.{FibreClaims, NoClaim}, Owners.{OwnerState, claims_of, comes_in, has_label, labels_of_fibre}, declared.claims.ClaimKind.ClaimKind}
use Rattle.mesh_rules.specs.{Legs.{find_leg, is_work, takes}, LocalNodes.LocalNode, declared.changes.LegChange.LegChange, declared.changes.LegChange.TheVariants.{Goes, Put}}
use Rattle.share_check.specs.Guards.{Guard, GuardsNone, is_risk_guarded}
use Rattle.leg_table.specs.{Edits.leg_put, LegClaims.{MayFollow, TakesNoMore, bars, claim_kind, is_this, takes_of}, TakenLabels.{taken_back, taken_in}, declared.labels.TakenLabel.TakenLabel}

-- What is held

-- by a leg of this role, with these risks
pub record Hold : Type 0 where
  pub role : Role
  pub risks : List Risk

abbrev pub hold_of : Leg → Hold
hold_of g = record { role = g.role; risks = g.risks }

abbrev pub held_by : Fibre → ℕ → Option Leg → Option Hold
held_by f x None = None
held_by f x (Some g) = if takes f x g then Some (hold_of g) else None

-- what each LSP holds
abbrev pub held_of : List Leg → Fibre → ℕ → Lsp → Option Hold
held_of legs f x l = held_by f x (find_leg l legs)

abbrev pub kind_held : Option Hold → Option ClaimKind
kind_held None = None
kind_held (Some k) = Some (claim_kind k.role)

-- a backup guards the risks that it records
abbrev pub guards_held : Risk → Option Hold → Bool
guards_held q None = false
guards_held q (Some k) = has_risk (if is_work k.role then [] else k.risks) q

-- the claims are just what is held
pub record ClaimsHold (h : Fibre → ℕ → Lsp → Option Hold) (o : List FibreClaims) : Type 0 where
  pub each : (f : Fibre) → AllByRecursion (λ c. kind_held (h f c.label c.lsp) ≡ Some c.kind) (claims_of f o)
  pub all : (f : Fibre) (x : ℕ) (l : Lsp) (k : Hold) → h f x l ≡ Some k → has_label o f x l ≡ true
  pub within : (f : Fibre) (x : ℕ) (l : Lsp) (k : Hold) → h f x l ≡ Some k → x ≤ labels_of_fibre f o

-- so are the guards
abbrev pub GuardsHold : (Fibre → ℕ → Lsp → Option Hold) → List Guard → Type 0
GuardsHold h s = (f : Fibre) (x : ℕ) (l : Lsp) (q : Risk) → is_risk_guarded s f x l q ≡ guards_held q (h f x l)

pub record AreHeld (h : Fibre → ℕ → Lsp → Option Hold) (o : OwnerState) (s : List Guard) : Type 0 where
  pub claims : ClaimsHold h o.claims
  pub guards : GuardsHold h s

-- Labels that an LSP gives up

-- the leg, if there is one, is the LSP's
abbrev pub IsLegOfLsp : Lsp → Option Leg → Type 0
IsLegOfLsp l g = IfSome g (λ g. g.lsp ≡ l)

-- the LSP's claims and guards there go, all others stay
pub record GivesUp (l : Lsp) (lost : Fibre → ℕ → Bool) (before after : List FibreClaims) (s left : List Guard)
    : Type 0 where
  pub claims : (f : Fibre) →
      claims_of f after ≡ filter (λ c. not (lost f c.label && same_lsp l c.lsp)) (claims_of f before)
  pub guards : (f : Fibre) (x : ℕ) (m : Lsp) (q : Risk) →
      is_risk_guarded left f x m q ≡ (if lost f x && same_lsp l m then false else is_risk_guarded s f x m q)

-- this label, if there is one
abbrev pub is_taken : Option TakenLabel → Fibre → ℕ → Bool
is_taken None f x = false
is_taken (Some t) f x = is_this t f x

-- of this label, if the leg after doesn't take it
abbrev pub is_lost_at : Option TakenLabel → Option Leg → Fibre → ℕ → Bool
is_lost_at t after f x = is_taken t f x && not (takes_of f x after)

-- the leg before takes the label, and the one after doesn't
abbrev pub is_lost : Option Leg → Option Leg → Fibre → ℕ → Bool
is_lost before after f x = takes_of f x before && not (takes_of f x after)

-- the label is on a fibre that comes in, and a working leg of the LSP guards no risk there
pub record MayGiveUp (g : Leg) (o : OwnerState) (s : List Guard) (f : Fibre) (x : ℕ) : Type 0 where
  pub comes_in : IsTrue (comes_in o.claims f)
  pub works : is_work g.role ≡ true → GuardsNone s f x g.lsp

-- each that the leg takes may be given up
abbrev pub MayGiveUpAll : Option Leg → OwnerState → List Guard → Type 0
MayGiveUpAll g o s = IfSome g (λ g. (f : Fibre) (x : ℕ) → takes f x g ≡ true → MayGiveUp g o s f x)

-- the LSP whose leg goes or is put
abbrev pub lsp_changed : LegChange → Lsp
lsp_changed (Goes l) = l
lsp_changed (Put g) = g.lsp

-- The label that is taken newly

-- a label that the leg before doesn't take
abbrev pub fresh_of : Option Leg → Option TakenLabel → Option TakenLabel
fresh_of before None = None
fresh_of before (Some t) = if takes_of t.fibre t.label before then None else Some t

abbrev pub first_of : Option TakenLabel → Option TakenLabel → Option TakenLabel
first_of None t = t
first_of (Some s) t = Some s

-- the label that the leg takes and the one before doesn't
abbrev pub new_label : Option Leg → Leg → Option TakenLabel
new_label before g = first_of (fresh_of before (taken_in g)) (fresh_of before (taken_back g))

-- the leg that the last change puts
abbrev pub last_put : List LegChange → Option Leg
last_put [] = None
last_put (c ∷ []) = leg_put c
last_put (c ∷ (d ∷ cs)) = last_put (d ∷ cs)

-- with the label, if there is one, held by the leg's LSP
abbrev pub holds_with_label : Leg → Option TakenLabel → (Fibre → ℕ → Lsp → Option Hold) → Fibre → ℕ → Lsp → Option Hold
holds_with_label g t h f x l = if is_taken t f x && same_lsp g.lsp l then Some (hold_of g) else h f x l

-- with the label that the leg takes newly
abbrev pub with_new : List Leg → Option Leg → (Fibre → ℕ → Lsp → Option Hold) → Fibre → ℕ → Lsp → Option Hold
with_new read None h f x l = h f x l
with_new read (Some g) h f x l = holds_with_label g (new_label (find_leg g.lsp read) g) h f x l

-- the owner has the label for the leg
pub record MayClaim (o : OwnerState) (g : Leg) (t : TakenLabel) : Type 0 where
  pub comes_in : IsTrue (comes_in o.claims t.fibre)
  pub within : t.label ≤ labels_of_fibre t.fibre o.claims
  pub free : NoClaim (bars g.role t.label) (claims_of t.fibre o.claims)

abbrev pub MayClaimNew : OwnerState → List Leg → Option Leg → Type 0
MayClaimNew o legs g = IfSome g (λ g. IfSome (new_label (find_leg g.lsp legs) g) (MayClaim o g))

-- Changes that are left

-- no leg takes more than its LSP's leg took when the rule read them
abbrev pub TakeNoMore : List Leg → List Leg → Type 0
TakeNoMore read legs = (l : Lsp) (g : Leg) → find_leg l legs ≡ Some g → TakesNoMore read g

abbrev pub TakeNoMoreYet : List Leg → List Leg → List LegChange → Type 0
TakeNoMoreYet read legs [] = Unit {0}
TakeNoMoreYet read legs (c ∷ cs) = TakeNoMore read legs

-- the changes may follow at some node, and the label that the last of them takes newly is claimed
pub record AreLeft (read legs : List Leg) (cs : List LegChange) (o : OwnerState) (s : List Guard) : Type 0 where
  pub may : (p : LocalNode) × MayFollow p read legs cs
  pub less : TakeNoMoreYet read legs cs
  pub held : AreHeld (with_new read (last_put cs) (held_of legs)) o s

-- Which labels the legs of a node take and use, the claims and the marks of its owner that they have, and the risks
-- that they guard (RFC 4872, section 9).
use Rattle.std.specs.{Prelude.{◌≡◌, ◌==◌, ◌≤◌, ◌⊎◌, ◌&&◌, ◌||◌, ◌++◌, ℕ, Bool, true, false, List, [], ◌∷◌, map, Option, Some, None, IsTrue, if◌then◌else◌}, List.{AllByRecursion, list_any}}
use Rattle.ason_base.specs.{Labels.has, Lsps.{same_fibre, same_lsp}, Network.row_of, Risks.has_risk, declared.calls.Role.Role, declared.calls.Role.TheVariants.{Work, Back}, declared.ids.Fibre.Fibre, declared.ids.Lsp.Lsp, declared.risks.Risk.Risk, declared.tables.Leg.Leg}
use Rattle.link_owner.specs.{Claims.works_on, Marks.{has_fibre_marks, is_lit}, Owners.{OwnerState, claim_added, claims_of, comes_in, has_label, labels_of_fibre}, declared.claims.Claim.Claim, declared.claims.ClaimKind.ClaimKind, declared.claims.ClaimKind.TheVariants.{Working, Backup}}
use Rattle.link_owner.specs.Claims as claims
use Rattle.mesh_rules.specs.{Legs.{find_leg, is_contended, is_marked, is_work, leg_changed, reverse, takes, usable, uses, with_leg, without_leg}, LocalNodes.{LocalNode, fibre_in, own_link}, declared.changes.LegChange.LegChange, declared.changes.LegChange.TheVariants.{Goes, Put}}
use Rattle.mesh_rules.specs.LocalNodes as local
use Rattle.share_check.specs.Guards.{GuardsJust, is_risk_guarded, Guard}
use Rattle.leg_table.specs.{States.{learnt_rows, local_of}, LegTables.LegTable, declared.labels.TakenLabel.TakenLabel}

-- The labels that a leg takes

abbrev pub is_this : TakenLabel → Fibre → ℕ → Bool
is_this t f x = same_fibre t.fibre f && t.label == x

-- the LSP's leg, if it has one, takes the label
abbrev pub takes_of : Fibre → ℕ → Option Leg → Bool
takes_of f x None = false
takes_of f x (Some g) = takes f x g

-- Claims of legs

-- a working leg has its label alone, a backup shares it
abbrev pub claim_kind : Role → ClaimKind
claim_kind Work = Working
claim_kind Back = Backup

abbrev pub claim_by : Role → ℕ → Lsp → Claim
claim_by r x l = record { label = x; lsp = l; kind = claim_kind r }

-- a claim that keeps a leg of this role from the label
abbrev pub bars : Role → ℕ → Claim → Bool
bars Work x c = claims.has x c
bars Back x c = works_on x c

-- how the leg has the label, if it takes it
abbrev pub kind_here : Fibre → ℕ → Option Leg → Option ClaimKind
kind_here f x None = None
kind_here f x (Some g) = if takes f x g then Some (claim_kind g.role) else None

-- the leg of the claim's LSP takes the label, and has it in this way
abbrev pub IsClaimOfLeg : List Leg → Fibre → Claim → Type 0
IsClaimOfLeg legs f c = kind_here f c.label (find_leg c.lsp legs) ≡ Some c.kind

-- the leg is marked, and uses the label
abbrev pub is_marked_on : Fibre → ℕ → Option Leg → Bool
is_marked_on f x None = false
is_marked_on f x (Some g) = is_marked g && uses f x g

-- an LSP's mark is on a label just where its leg is marked and uses it
abbrev pub MarksFit : List Leg → OwnerState → Type 0
MarksFit legs o = (f : Fibre) (x : ℕ) (l : Lsp) → is_lit o.marks f x l ≡ is_marked_on f x (find_leg l legs)

-- the claims are exactly the labels that legs take, and the marks those that marked legs use
pub record ClaimsFit (legs : List Leg) (o : OwnerState) : Type 0 where
  -- each claim is one of a leg
  pub each : (f : Fibre) → AllByRecursion (IsClaimOfLeg legs f) (claims_of f o.claims)
  -- each label that a leg takes is claimed by its LSP
  pub all : (f : Fibre) (x : ℕ) (l : Lsp) (g : Leg) → find_leg l legs ≡ Some g → IsTrue (takes f x g) →
      IsTrue (has_label o.claims f x l)
  -- and is a label of its fibre
  pub within : (f : Fibre) (x : ℕ) (l : Lsp) (g : Leg) → find_leg l legs ≡ Some g → IsTrue (takes f x g) →
      x ≤ labels_of_fibre f o.claims
  pub marks : MarksFit legs o

-- the claims with that of a leg that takes the label
abbrev pub claimed_by : Leg → TakenLabel → OwnerState → OwnerState
claimed_by g t o = record o { claims = claim_added t.fibre (claim_by g.role t.label g.lsp) o.claims }

-- the LSP's marks are those of this leg
abbrev pub MarksOfLeg : Lsp → Option Leg → OwnerState → Type 0
MarksOfLeg l g o = (f : Fibre) (x : ℕ) → is_lit o.marks f x l ≡ is_marked_on f x g

-- they are those of this leg after, and all else is as it was
pub record MarksJust (l : Lsp) (g : Option Leg) (before after : OwnerState) : Type 0 where
  pub claims : after.claims ≡ before.claims
  pub fibres : (f : Fibre) → has_fibre_marks after.marks f ≡ has_fibre_marks before.marks f
  pub lit : (f : Fibre) (x : ℕ) (m : Lsp) → is_lit after.marks f x m
      ≡ (if same_lsp l m then is_marked_on f x g else is_lit before.marks f x m)

-- Guards of legs

-- the risks that the leg guards on its label: a backup those that it records
abbrev pub guarded_risks : Leg → List Risk
guarded_risks g = if is_work g.role then [] else g.risks

-- the guards with those of a leg that takes the label
abbrev pub GuardsBy : Leg → TakenLabel → List Guard → List Guard → Type 0
GuardsBy g t before after = GuardsJust t.fibre t.label g.lsp (guarded_risks g) before after

-- the leg takes the label, and guards the risk there
abbrev pub guards_here : Fibre → ℕ → Risk → Option Leg → Bool
guards_here f x q None = false
guards_here f x q (Some g) = takes f x g && has_risk (guarded_risks g) q

-- the risks that are guarded are exactly those that backups record, each on the label that the backup takes
pub record GuardsFit (legs : List Leg) (s : List Guard) : Type 0 where
  pub each : (f : Fibre) (x : ℕ) (l : Lsp) (q : Risk) → is_risk_guarded s f x l q ≡ guards_here f x q (find_leg l legs)

-- the claims, the marks and the guards are those of the legs
pub record LabelsFit (legs : List Leg) (o : OwnerState) (s : List Guard) : Type 0 where
  pub claims : ClaimsFit legs o
  pub guards : GuardsFit legs s

-- Fibres of a node

-- the fibre in of a link of the node
abbrev pub is_fibre_in : LocalNode → Fibre → Bool
is_fibre_in p f = list_any (λ l. same_fibre (fibre_in l p.id) f) p.own

-- a fibre of a link of the node, in or out
abbrev pub is_own_fibre : LocalNode → Fibre → Bool
is_own_fibre p f = is_fibre_in p f || is_fibre_in p (reverse f)

-- the owner has the fibres in of the node's own links, with their labels, and the marks of those in and out
pub record OwnerFits (p : LocalNode) (o : OwnerState) : Type 0 where
  pub fibres : (f : Fibre) → comes_in o.claims f ≡ is_fibre_in p f
  pub labels : (f : Fibre) → IsTrue (comes_in o.claims f) →
      labels_of_fibre f o.claims ≡ local.labels_of (own_link p f.link)
  pub marked : (f : Fibre) → has_fibre_marks o.marks f ≡ is_own_fibre p f

-- these are the tables, the owner and the shares of one node, and the rows that it knows begin with those of its own
-- links
pub record AreOfOneNode (t : LegTable) (o : OwnerState) (s : List Guard) : Type 0 where
  pub labels : LabelsFit t.legs o s
  pub fibres : OwnerFits (local_of t) o
  pub rows : t.rows ≡ map row_of t.own ++ learnt_rows t

-- the same fibres come in, with as many labels, and the same have marks
pub record SameFibres (o after : OwnerState) : Type 0 where
  pub fibres : (f : Fibre) → comes_in after.claims f ≡ comes_in o.claims f
  pub labels : (f : Fibre) → labels_of_fibre f after.claims ≡ labels_of_fibre f o.claims
  pub marked : (f : Fibre) → has_fibre_marks after.marks f ≡ has_fibre_marks o.marks f

-- Changes of legs

-- the LSP's leg takes the label, in the same role and with the same risks
pub record Took (legs : List Leg) (g : Leg) (f : Fibre) (x : ℕ) : Type 0 where
  pub before : Leg
  pub there : find_leg g.lsp legs ≡ Some before
  pub role : before.role ≡ g.role
  pub risks : before.risks ≡ g.risks
  pub took : takes f x before ≡ true

-- each label that the leg takes its LSP's leg takes
abbrev pub TakesNoMore : List Leg → Leg → Type 0
TakesNoMore legs g = (f : Fibre) (x : ℕ) → takes f x g ≡ true → Took legs g f x

-- its LSP's leg doesn't take the label, and it is usable for the leg
pub record MayTakeLabel (p : LocalNode) (legs : List Leg) (g : Leg) (t : TakenLabel) : Type 0 where
  pub fresh : takes_of t.fibre t.label (find_leg g.lsp legs) ≡ false
  pub comes_in : IsTrue (is_fibre_in p t.fibre)
  pub usable : IsTrue (has (usable p legs g.role g.risks t.fibre) t.label)

-- the leg takes one label more than its LSP's leg, which was usable by the legs that its rule read
pub record TakesOneMore (p : LocalNode) (read legs : List Leg) (g : Leg) : Type 0 where
  pub label : TakenLabel
  pub new : takes label.fibre label.label g ≡ true
  pub may : MayTakeLabel p read g label
  pub rest : (f : Fibre) (x : ℕ) → takes f x g ≡ true → (is_this label f x ≡ true) ⊎ Took legs g f x

-- just the last change may take a label more
abbrev pub MayBePut : LocalNode → List Leg → List Leg → Leg → List LegChange → Type 0
MayBePut p read legs g [] = TakesNoMore legs g ⊎ TakesOneMore p read legs g
MayBePut p read legs g (c ∷ cs) = TakesNoMore legs g

-- the changes of one answer, each in its turn; its rule read these legs
abbrev pub MayFollow : LocalNode → List Leg → List Leg → List LegChange → Type 0
MayFollow p read legs [] = Unit {0}
MayFollow p read legs (Goes l ∷ cs) = MayFollow p read (without_leg l legs) cs
MayFollow p read legs (Put g ∷ cs) = MayBePut p read legs g cs × MayFollow p read (with_leg g legs) cs

abbrev pub MayBeMade : LocalNode → List Leg → List LegChange → Type 0
MayBeMade p legs cs = MayFollow p legs legs cs

-- the LSP's leg, which stands, takes the same labels, in the same role and with the same risks
pub record StaysAs (legs : List Leg) (g : Leg) : Type 0 where
  pub before : Leg
  pub there : find_leg g.lsp legs ≡ Some before
  pub role : before.role ≡ g.role
  pub risks : before.risks ≡ g.risks
  pub same : (f : Fibre) (x : ℕ) → takes f x before ≡ takes f x g

-- a leg that goes takes none
abbrev pub MayLegStay : List Leg → LegChange → Type 0
MayLegStay legs (Goes l) = (f : Fibre) (x : ℕ) → takes_of f x (find_leg l legs) ≡ false
MayLegStay legs (Put g) = StaysAs legs g

-- each in its turn
abbrev pub MayAllStay : List Leg → List LegChange → Type 0
MayAllStay legs [] = Unit {0}
MayAllStay legs (c ∷ cs) = MayLegStay legs c × MayAllStay (leg_changed c legs) cs

-- Marks of legs that are put

-- each label that the leg uses is of one of the fibres
abbrev pub UsesOver : (Fibre → Bool) → Leg → Type 0
UsesOver own g = (f : Fibre) (x : ℕ) → uses f x g ≡ true → IsTrue (own f)

-- the labels that the leg uses are of the node's fibres
abbrev pub OverOwnFibres : LocalNode → Leg → Type 0
OverOwnFibres p g = UsesOver (is_own_fibre p) g

-- its LSP's leg is marked and uses those labels
pub record KeepsMark (legs : List Leg) (g : Leg) : Type 0 where
  pub before : Leg
  pub there : find_leg g.lsp legs ≡ Some before
  pub marked : is_marked before ≡ true
  pub uses : (f : Fibre) (x : ℕ) → uses f x g ≡ true → uses f x before ≡ true

-- no marked leg of another LSP uses them, and they are of these fibres
pub record GetsMark (own : Fibre → Bool) (legs : List Leg) (g : Leg) : Type 0 where
  pub over : UsesOver own g
  pub alone : is_contended legs g ≡ false

abbrev pub MayMark : (Fibre → Bool) → List Leg → Leg → Type 0
MayMark own legs g = is_marked g ≡ true → KeepsMark legs g ⊎ GetsMark own legs g

abbrev pub MayMarkSo : (Fibre → Bool) → List Leg → LegChange → Type 0
MayMarkSo own legs (Goes l) = Unit {0}
MayMarkSo own legs (Put g) = MayMark own legs g

-- each in its turn
abbrev pub MayAllMark : (Fibre → Bool) → List Leg → List LegChange → Type 0
MayAllMark own legs [] = Unit {0}
MayAllMark own legs (c ∷ cs) = MayMarkSo own legs c × MayAllMark own (leg_changed c legs) cs

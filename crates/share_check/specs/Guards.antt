-- Which LSPs guard which risks on the labels of fibres (RFC 4872, section 9).
use Rattle.std.specs.{Prelude.{ℕ, ◌≡◌, ◌==◌, ◌&&◌, ◌||◌, Bool, false, not, List, [], ◌∷◌, filter, map, IsTrue, if◌then◌else◌}, List.{AllByRecursion, AllPairs, Contains, flat_map, list_any}}
use Rattle.ason_base.specs.{declared.limits.TheConstants.MOST_LABELS, declared.ids.Fibre.Fibre, declared.ids.Lsp.Lsp, declared.risks.Risk.Risk, Labels.up_to, Lsps.{lsp_before, same_fibre, same_lsp}, Risks.{has_risk, is_below, same_risk}}
use Rattle.share_check.specs.{declared.guarded.GuardedRisk.GuardedRisk, declared.guarded.Meets.Meets}

-- an LSP guards a risk on a label of a fibre
pub record Guard : Type 0 where
  pub fibre : Fibre
  pub label : ℕ
  pub lsp : Lsp
  pub risk : Risk

-- One guard

-- it is of this label of the fibre
abbrev pub is_guard_on : Fibre → ℕ → Guard → Bool
is_guard_on f x g = same_fibre g.fibre f && g.label == x

-- it is of this label, and of the risk
abbrev pub has_on : Fibre → ℕ → Risk → Guard → Bool
has_on f x q g = is_guard_on f x g && same_risk q g.risk

-- it is of this fibre, and of one of the risks
abbrev pub is_guard_met : Fibre → List Risk → Guard → Bool
is_guard_met f r g = same_fibre g.fibre f && has_risk r g.risk

-- All guards

-- the LSP guards the risk on the label
abbrev pub is_risk_guarded : List Guard → Fibre → ℕ → Lsp → Risk → Bool
is_risk_guarded s f x l q = list_any (λ g. has_on f x q g && same_lsp g.lsp l) s

-- it guards no risk there
abbrev pub GuardsNone : List Guard → Fibre → ℕ → Lsp → Type 0
GuardsNone s f x l = (q : Risk) → is_risk_guarded s f x l q ≡ false

-- no guard of the label has one of the risks
abbrev pub fits : List Guard → Fibre → List Risk → ℕ → Bool
fits s f r x = not (list_any (λ g. is_guard_met f r g && g.label == x) s)

-- the labels from 1 to 80 that fit
abbrev pub fitting : List Guard → Fibre → List Risk → List ℕ
fitting s f r = filter (fits s f r) (up_to MOST_LABELS)

-- the LSP guards the risk on the label, and no lesser one does
pub record IsLeastLsp (s : List Guard) (f : Fibre) (x : ℕ) (q : Risk) (l : Lsp) : Type 0 where
  pub guarded : IsTrue (is_risk_guarded s f x l q)
  pub least : (m : Lsp) → IsTrue (lsp_before m l) → is_risk_guarded s f x m q ≡ false

-- the least of the risks that an LSP guards on the label, and the least LSP that guards it
pub record IsLeastMet (s : List Guard) (f : Fibre) (x : ℕ) (r : List Risk) (m : Meets) : Type 0 where
  pub asked : Contains r m.risk
  pub least_risk : (q : Risk) (l : Lsp) → Contains r q → IsTrue (is_below q m.risk) → is_risk_guarded s f x l q ≡ false
  pub least_lsp : IsLeastLsp s f x m.risk m.lsp

-- Changes

-- the LSP on its label
abbrev pub is_there : Fibre → ℕ → Lsp → Fibre → ℕ → Lsp → Bool
is_there f x l g y m = (same_fibre f g && x == y) && same_lsp l m

-- the LSP guards just these risks on the label, and all else is guarded as it was
abbrev pub GuardsJust : Fibre → ℕ → Lsp → List Risk → List Guard → List Guard → Type 0
GuardsJust f x l r before after = (g : Fibre) (y : ℕ) (m : Lsp) (q : Risk) →
    is_risk_guarded after g y m q ≡ (if is_there f x l g y m then has_risk r q else is_risk_guarded before g y m q)

-- What is kept of a label: its risks in order, each with an LSP that guards it

pub record LabelTally : Type 0 where
  pub fibre : Fibre
  pub label : ℕ
  pub guarded : List GuardedRisk

-- by risk, and those of one risk by LSP
abbrev pub is_before : GuardedRisk → GuardedRisk → Bool
is_before a b = is_below a.risk b.risk || (same_risk a.risk b.risk && lsp_before a.lsp b.lsp)

abbrev pub AreRisksInOrder : List GuardedRisk → Type 0
AreRisksInOrder risks = AllPairs (λ a b. is_before b a ≡ false) risks

abbrev pub is_guard : Lsp → Risk → GuardedRisk → Bool
is_guard l q p = same_risk q p.risk && same_lsp p.lsp l

-- the LSP guards the risk
abbrev pub has_guard : Lsp → Risk → List GuardedRisk → Bool
has_guard l q risks = list_any (is_guard l q) risks

-- one of the risks is guarded
abbrev pub meets : List Risk → List GuardedRisk → Bool
meets r risks = list_any (λ p. has_risk r p.risk) risks

-- those that this LSP doesn't guard
abbrev pub unguarded : Lsp → List GuardedRisk → List GuardedRisk
unguarded l risks = filter (λ p. not (same_lsp p.lsp l)) risks

-- no LSP guards one of the risks
abbrev pub NoneMet : List GuardedRisk → List Risk → Type 0
NoneMet guarded r = (l : Lsp) (q : Risk) → Contains r q → has_guard l q guarded ≡ false

-- the least of the risks that an LSP guards, and the least LSP that guards it
pub record IsFirstMet (guarded : List GuardedRisk) (r : List Risk) (m : Meets) : Type 0 where
  pub asked : Contains r m.risk
  pub guards : IsTrue (has_guard m.lsp m.risk guarded)
  pub least_risk : (q : Risk) (l : Lsp) → Contains r q → IsTrue (is_below q m.risk) → has_guard l q guarded ≡ false
  pub least_lsp : (l : Lsp) → IsTrue (lsp_before l m.lsp) → has_guard l m.risk guarded ≡ false

-- What is kept of all labels

abbrev pub is_at : Fibre → ℕ → LabelTally → Bool
is_at f x t = same_fibre t.fibre f && t.label == x

-- each label stands once
abbrev pub AreTalliesApart : List LabelTally → Type 0
AreTalliesApart [] = Unit {0}
AreTalliesApart (t ∷ ts) = AllByRecursion (λ u. is_at t.fibre t.label u ≡ false) ts × AreTalliesApart ts

abbrev pub guard_on : Fibre → ℕ → GuardedRisk → Guard
guard_on f x p = record { fibre = f; label = x; lsp = p.lsp; risk = p.risk }

abbrev pub guards_on : LabelTally → List Guard
guards_on t = map (guard_on t.fibre t.label) t.guarded

abbrev pub guards_of : List LabelTally → List Guard
guards_of ts = flat_map guards_on ts

-- the risks of the label
abbrev pub guarded_at : Fibre → ℕ → List LabelTally → List GuardedRisk
guarded_at f x [] = []
guarded_at f x (t ∷ ts) = if is_at f x t then t.guarded else guarded_at f x ts

-- the label with these risks, all others as they were
abbrev pub with_guarded : Fibre → ℕ → List GuardedRisk → List LabelTally → List LabelTally
with_guarded f x risks [] = []
with_guarded f x risks (t ∷ ts) =
    if is_at f x t then record t { guarded = risks } ∷ ts else t ∷ with_guarded f x risks ts

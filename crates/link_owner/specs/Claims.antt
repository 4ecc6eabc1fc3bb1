-- The claims of the labels of one fibre.
use Rattle.std.specs.{Prelude.{ℕ, ◌≡◌, ◌==◌, ◌&&◌, Bool, true, false, not, List, filter, Option, Some, None, IsTrue}, List.list_any}
use Rattle.ason_base.specs.{declared.limits.TheConstants.MOST_LABELS, declared.ids.Fibre.Fibre, declared.ids.Lsp.Lsp, Labels.{up_to, with_label, without}, Lsps.{lsp_before, same_lsp}}
use Rattle.link_owner.specs.{declared.claims.Claim.Claim, declared.claims.ClaimFault.ClaimFault, declared.claims.ClaimFault.TheVariants.{Held, OutOfMemory}, declared.claims.ClaimKind.ClaimKind, declared.claims.ClaimKind.TheVariants.{Working, Backup}, declared.claims.Sought.Sought, declared.claims.Sought.TheVariants.{Any, AnyWorking}, declared.free_labels.FreeLabels.FreeLabels}

-- a fibre, its number of labels, and who has them
pub record FibreClaims : Type 0 where
  pub fibre : Fibre
  pub labels : ℕ
  pub claims : List Claim

-- Kinds

abbrev pub is_working : ClaimKind → Bool
is_working Working = true
is_working Backup = false

abbrev pub is_backup : ClaimKind → Bool
is_backup Working = false
is_backup Backup = true

-- One claim

abbrev pub claim_so : ClaimKind → ℕ → Lsp → Claim
claim_so kind x l = record { label = x; lsp = l; kind = kind }

abbrev pub working_claim : ℕ → Lsp → Claim
working_claim x l = record { label = x; lsp = l; kind = Working }

abbrev pub backup_claim : ℕ → Lsp → Claim
backup_claim x l = record { label = x; lsp = l; kind = Backup }

-- some leg has the label
abbrev pub has : ℕ → Claim → Bool
has x c = c.label == x

-- a working leg has it
abbrev pub works_on : ℕ → Claim → Bool
works_on x c = c.label == x && is_working c.kind

-- a leg has it in this way
abbrev pub has_so : (ClaimKind → Bool) → ℕ → Claim → Bool
has_so so x c = c.label == x && so c.kind

-- a leg of this LSP has it
abbrev pub is_of_lsp : ℕ → Lsp → Claim → Bool
is_of_lsp x l c = c.label == x && same_lsp c.lsp l

abbrev pub is_sought : Sought → ℕ → Claim → Bool
is_sought Any x c = has x c
is_sought AnyWorking x c = works_on x c

-- what bars a leg that is to have a label so: any claim a working leg, and a working leg's a backup
abbrev pub barring : ClaimKind → Sought
barring Working = Any
barring Backup = AnyWorking

-- All claims of a fibre

-- the claims but that of this LSP on this label
abbrev pub freed : ℕ → Lsp → List Claim → List Claim
freed x l claims = filter (λ c. not (is_of_lsp x l c)) claims

-- the labels from 1 to n that no leg has
abbrev pub unclaimed : ℕ → List Claim → List ℕ
unclaimed n claims = filter (λ x. not (list_any (has x) claims)) (up_to n)

-- the labels from 1 to n that no working leg has
abbrev pub shareable : ℕ → List Claim → List ℕ
shareable n claims = filter (λ x. not (list_any (works_on x) claims)) (up_to n)

-- the labels from 1 to 80 that no leg has in this way
abbrev pub free_of : (ClaimKind → Bool) → List Claim → List ℕ
free_of so claims = filter (λ x. not (list_any (has_so so x) claims)) (up_to MOST_LABELS)

-- the labels that no working leg has, and those that no backup has
pub record AreFree (claims : List Claim) (free : FreeLabels) : Type 0 where
  pub of_working : free.of_working ≡ free_of is_working claims
  pub of_backups : free.of_backups ≡ free_of is_backup claims

-- the labels with this one where it is free, and without it where it isn't
abbrev pub with_free : List ℕ → ℕ → Bool → List ℕ
with_free labels x true = with_label labels x
with_free labels x false = without labels x

-- below all that were met so far
abbrev pub is_lesser : Lsp → Option Lsp → Bool
is_lesser l None = true
is_lesser l (Some k) = lsp_before l k

-- the least LSP of the claims that pass
pub record IsLeastClaim (p : Claim → Bool) (claims : List Claim) (l : Lsp) : Type 0 where
  pub passes : IsTrue (list_any (λ c. p c && same_lsp c.lsp l) claims)
  pub least : IsTrue (not (list_any (λ c. p c && lsp_before c.lsp l) claims))

-- no claim passes
abbrev pub NoClaim : (Claim → Bool) → List Claim → Type 0
NoClaim p claims = IsTrue (not (list_any p claims))

-- a label is refused for the least LSP of the claims that pass, and memory is wanting only where none does
abbrev pub RefusedFor : (Claim → Bool) → List Claim → ClaimFault → Type 0
RefusedFor p claims (Held l) = IsLeastClaim p claims l
RefusedFor p claims OutOfMemory = NoClaim p claims

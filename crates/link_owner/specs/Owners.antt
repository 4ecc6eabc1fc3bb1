-- Who has the labels of the fibres that come in at a node, and whose backup is activated on those of its fibres.
use Rattle.std.specs.{Prelude.{ℕ, ◌==◌, ◌++◌, ◌≡◌, ◌&&◌, ◌||◌, Bool, false, List, [], ◌∷◌, filter, map, Option, Some, None, if◌then◌else◌}, List.list_any}
use Rattle.ason_base.specs.{declared.ids.Fibre.Fibre, declared.ids.Lsp.Lsp, declared.ids.NodeId.NodeId, declared.network.LinkSpec.LinkSpec, Lsps.same_fibre, Network.{Network, receiver_of, sender_of, touches}}
use Rattle.link_owner.specs.{Claims.{FibreClaims, freed, is_of_lsp}, Marks.{FibreMarks, has_fibre_marks, is_lit, lit, none_lit}, declared.claims.Claim.Claim}

-- the claims of each fibre that comes in, and the marks of each fibre, in and out
pub record OwnerState : Type 0 where
  pub claims : List FibreClaims
  pub marks : List FibreMarks

-- One fibre of a node's

abbrev pub is_fibre : Fibre → FibreClaims → Bool
is_fibre f r = same_fibre r.fibre f

-- the fibre comes in here
abbrev pub comes_in : List FibreClaims → Fibre → Bool
comes_in o f = list_any (is_fibre f) o

abbrev pub labels_of_fibre : Fibre → List FibreClaims → ℕ
labels_of_fibre f [] = 0
labels_of_fibre f (r ∷ o) = if is_fibre f r then r.labels else labels_of_fibre f o

abbrev pub claims_of : Fibre → List FibreClaims → List Claim
claims_of f [] = []
claims_of f (r ∷ o) = if is_fibre f r then r.claims else claims_of f o

-- a leg of this LSP has the label
abbrev pub has_label : List FibreClaims → Fibre → ℕ → Lsp → Bool
has_label o f x l = list_any (is_of_lsp x l) (claims_of f o)

-- Changes: of one fibre's claims, all else as it was

abbrev pub with_claims : Fibre → List Claim → List FibreClaims → List FibreClaims
with_claims f claims [] = []
with_claims f claims (r ∷ o) = if is_fibre f r then record r { claims = claims } ∷ o else r ∷ with_claims f claims o

abbrev pub claim_added : Fibre → Claim → List FibreClaims → List FibreClaims
claim_added f c o = with_claims f (claims_of f o ++ c ∷ []) o

abbrev pub label_freed : Fibre → ℕ → Lsp → List FibreClaims → List FibreClaims
label_freed f x l o = with_claims f (freed x l (claims_of f o)) o

-- Marks

-- the label has this LSP's mark, all else is as it was
pub record LightsJust (f : Fibre) (x : ℕ) (l : Lsp) (before after : OwnerState) : Type 0 where
  pub claims : after.claims ≡ before.claims
  pub fibres : (g : Fibre) → has_fibre_marks after.marks g ≡ has_fibre_marks before.marks g
  pub lit : (g : Fibre) (y : ℕ) → lit after.marks g y
      ≡ (if same_fibre f g && x == y then Some l else lit before.marks g y)

-- the label hasn't this LSP's mark, all else is as it was
pub record DarkensJust (f : Fibre) (x : ℕ) (l : Lsp) (before after : OwnerState) : Type 0 where
  pub claims : after.claims ≡ before.claims
  pub fibres : (g : Fibre) → has_fibre_marks after.marks g ≡ has_fibre_marks before.marks g
  pub lit : (g : Fibre) (y : ℕ) → lit after.marks g y
      ≡ (if same_fibre f g && (x == y && is_lit before.marks f x l) then None else lit before.marks g y)

-- The start

-- the fibre of a link that comes in at n, with no claim
abbrev pub fibre_unclaimed : NodeId → LinkSpec → FibreClaims
fibre_unclaimed n l = record {
  fibre = record { link = l.id; forward = l.high.0 == n.0 };
  labels = l.labels;
  claims =
      [];
}

-- the fibres of the node's own links, in order of number
abbrev pub none_claimed : Network → NodeId → List FibreClaims
none_claimed t n = map (fibre_unclaimed n) (filter (touches n) t.links)

abbrev pub is_this_node : Option NodeId → NodeId → Bool
is_this_node None n = false
is_this_node (Some m) n = m.0 == n.0

-- just the fibres that lead to the node come in
abbrev pub HasFibresInto : Network → NodeId → List FibreClaims → Type 0
HasFibresInto t n o = (f : Fibre) → comes_in o f ≡ is_this_node (receiver_of t f) n

-- no label is claimed, and none has a mark
abbrev pub unowned : Network → NodeId → OwnerState
unowned t n = record { claims = none_claimed t n; marks = none_lit t n }

-- a fibre is the node's just where it leads to the node or from it
abbrev pub HasFibresOf : Network → NodeId → List FibreMarks → Type 0
HasFibresOf t n marks = (f : Fibre) → has_fibre_marks marks f ≡ (is_this_node (receiver_of t f) n || is_this_node (sender_of t f) n)

-- Which LSP's backup is activated on each label of a node's fibres, be it one that comes in or one that goes out.
use Rattle.std.specs.{Prelude.{ℕ, ◌≡◌, ◌==◌, ◌&&◌, Bool, true, false, List, [], ◌∷◌, filter, Option, Some, None, if◌then◌else◌, replicate, slice_get}, List.{flat_map, list_any}}
use Rattle.ason_base.specs.{declared.ids.Fibre.Fibre, declared.ids.Lsp.Lsp, declared.ids.NodeId.NodeId, declared.network.LinkSpec.LinkSpec, Lsps.{is_lsp, same_fibre, same_lsp}, Network.{Network, touches}}
use Rattle.link_owner.specs.declared.marks.TheConstants.{PLACES}

-- a fibre, and whose mark is on each label, which has its number as its place
pub record FibreMarks : Type 0 where
  pub fibre : Fibre
  pub lit : List (Option Lsp)

-- One fibre

abbrev pub is_marked_fibre : Fibre → FibreMarks → Bool
is_marked_fibre f m = same_fibre m.fibre f

abbrev pub mark_or : Option (Option Lsp) → Option Lsp
mark_or None = None
mark_or (Some k) = k

-- the LSP whose mark is on the label
abbrev pub lit_on : ℕ → FibreMarks → Option Lsp
lit_on x m = mark_or (slice_get m.lit x)

-- no other LSP's mark is there
abbrev pub is_open_to : Lsp → Option Lsp → Bool
is_open_to l None = true
is_open_to l (Some k) = same_lsp k l

-- the label has this LSP's mark, each other one what it had
pub record LightsLabel (x : ℕ) (l : Lsp) (before after : FibreMarks) : Type 0 where
  pub fibre : after.fibre ≡ before.fibre
  pub lit : (y : ℕ) → lit_on y after ≡ (if x == y then Some l else lit_on y before)

-- the label hasn't this LSP's mark, each other one has what it had
pub record DarkensLabel (x : ℕ) (l : Lsp) (before after : FibreMarks) : Type 0 where
  pub fibre : after.fibre ≡ before.fibre
  pub lit : (y : ℕ) → lit_on y after ≡ (if x == y && is_lsp (lit_on x before) l then None else lit_on y before)

-- a place for each label; that of 0 is unused
abbrev pub dark_fibre : Fibre → FibreMarks
dark_fibre f = record { fibre = f; lit = replicate PLACES None }

-- All fibres of a node

-- the fibre is one of the node's
abbrev pub has_fibre_marks : List FibreMarks → Fibre → Bool
has_fibre_marks marks f = list_any (is_marked_fibre f) marks

-- the LSP whose mark is on the label; a fibre that isn't the node's has none
abbrev pub lit : List FibreMarks → Fibre → ℕ → Option Lsp
lit [] f x = None
lit (m ∷ marks) f x = if is_marked_fibre f m then lit_on x m else lit marks f x

-- the mark is this LSP's
abbrev pub is_lit : List FibreMarks → Fibre → ℕ → Lsp → Bool
is_lit marks f x l = is_lsp (lit marks f x) l

-- The start

-- both fibres of a link
abbrev pub dark_fibres : LinkSpec → List FibreMarks
dark_fibres l =
    dark_fibre (record { link = l.id; forward = true }) ∷ dark_fibre (record { link = l.id; forward = false }) ∷ []

-- the fibres of the node's own links, in order of number, with no mark
abbrev pub none_lit : Network → NodeId → List FibreMarks
none_lit t n = flat_map dark_fibres (filter (touches n) t.links)

-- no label of any fibre has a mark
abbrev pub AreDark : List FibreMarks → Type 0
AreDark marks = (f : Fibre) (x : ℕ) → lit marks f x ≡ None

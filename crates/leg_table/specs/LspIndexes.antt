-- The calls of an ingress by their LSPs: what LSP each call has, in order of LSP and then of call number.
use Rattle.std.specs.{Prelude.{◌≡◌, ◌≤◌, ◌==◌, ◌&&◌, ◌||◌, nat_lt, not, Bool, true, false, List, filter, Option, Some, None, IsTrue, refl, if◌then◌else◌}, List.{AllByRecursion, list_any}}
use Rattle.ason_base.specs.{declared.ids.CallNo.CallNo, declared.ids.Lsp.Lsp, declared.tables.CallRec.CallRec, InOrder.{IsKeyOrder, RisesBy, same_option}, Lsps.{lsp_before, same_lsp}}
use Rattle.ason_base.proofs.{KeyOrder.{by_key, by_parts, number_order}, LspOrder.lsp_order}
use Rattle.mesh_rules.specs.Calls.{find_call}
use Rattle.leg_table.specs.declared.lsp_index.LspOfCall.{LspOfCall}

-- The order

abbrev pub is_same : Option Lsp → Option Lsp → Bool
is_same = same_option same_lsp

-- a call without an LSP comes behind those with one
abbrev pub is_earlier : Option Lsp → Option Lsp → Bool
is_earlier (Some a) (Some b) = lsp_before a b
is_earlier (Some a) None = true
is_earlier None b = false

-- one LSP, or none, is before another, or they are the same
pub option_order : IsKeyOrder is_same is_earlier
option_order = record { itself = itself; one = one; never = never; through = through; total = total } where
  itself : (a : Option Lsp) → is_same a a ≡ true
  itself None = refl
  itself (Some a) = lsp_order.itself a

  one : (a b : Option Lsp) → is_same a b ≡ true → a ≡ b
  one None None e = refl
  one None (Some b) e = absurd (cc e)
  one (Some a) None e = absurd (cc e)
  one (Some a) (Some b) e = λ i. Some (lsp_order.one a b e i)

  never : (a : Option Lsp) → is_earlier a a ≡ false
  never None = refl
  never (Some a) = lsp_order.never a

  through : (a b c : Option Lsp) → is_earlier a b ≡ true → is_earlier b c ≡ true → is_earlier a c ≡ true
  through (Some a) (Some b) (Some c) e f = lsp_order.through a b c e f
  through (Some a) (Some b) None e f = refl
  through (Some a) None c e f = absurd (cc f)
  through None b c e f = absurd (cc e)

  total : (a b : Option Lsp) → is_same b a ≡ false → is_earlier a b ≡ false → is_earlier b a ≡ true
  total None None e f = absurd (cc e)
  total None (Some b) e f = refl
  total (Some a) None e f = absurd (cc f)
  total (Some a) (Some b) e f = lsp_order.total a b e f

abbrev pub is_before : LspOfCall → LspOfCall → Bool
is_before a b = is_earlier a.lsp b.lsp || (is_same a.lsp b.lsp && nat_lt a.call.0 b.call.0)

abbrev pub is_same_entry : LspOfCall → LspOfCall → Bool
is_same_entry a b = is_same a.lsp b.lsp && a.call.0 == b.call.0

-- by LSP, and those of one LSP by call
pub entry_order : IsKeyOrder is_same_entry is_before
entry_order =
    by_key (λ (e : LspOfCall). (e.lsp, e.call.0)) (λ k. record { lsp = k.0; call = record { 0 = k.1 } }) (λ e. refl)
    (by_parts option_order number_order)

abbrev pub IndexRises : List LspOfCall → Type 0
IndexRises es = RisesBy is_before es

-- Entries

abbrev pub is_entry : LspOfCall → LspOfCall → Bool
is_entry e x = is_same_entry x e

abbrev pub has_entry : LspOfCall → List LspOfCall → Bool
has_entry e es = list_any (is_entry e) es

abbrev pub without_entry : LspOfCall → List LspOfCall → List LspOfCall
without_entry e es = filter (λ x. not (is_entry e x)) es

-- the same entries, and this one
abbrev pub IsMore : LspOfCall → List LspOfCall → List LspOfCall → Type 0
IsMore e es after = (x : LspOfCall) → has_entry x after ≡ (is_entry x e || has_entry x es)

-- this one, or one after it
abbrev pub is_entry_from : LspOfCall → LspOfCall → Bool
is_entry_from e x = not (is_before x e)

-- What an index is

abbrev pub work_of : CallRec → Option Lsp
work_of c = c.work

abbrev pub back_of : CallRec → Option Lsp
back_of c = c.back

-- the call, if it stands, has this LSP, or has none
abbrev pub has_call_lsp : (CallRec → Option Lsp) → Option CallRec → Option Lsp → Bool
has_call_lsp of None l = false
has_call_lsp of (Some c) l = is_same (of c) l

-- the entries are exactly those of the calls that stand
pub record IsIndexOf (of : CallRec → Option Lsp) (calls : List CallRec) (es : List LspOfCall) : Type 0 where
  pub rises : IndexRises es
  pub entries : (e : LspOfCall) → has_entry e es ≡ has_call_lsp of (find_call e.call calls) e.lsp

-- Changes

-- the entries of this call are exactly that of this LSP, and all others are as they were
pub record IsSet (n : CallNo) (l : Option Lsp) (before after : List LspOfCall) : Type 0 where
  pub rises : IndexRises after
  pub entries : (e : LspOfCall) →
      has_entry e after ≡ (if e.call.0 == n.0 then is_same l e.lsp else has_entry e before)

-- this call has no entry, and all others are as they were
pub record IsTakenOff (n : CallNo) (before after : List LspOfCall) : Type 0 where
  pub rises : IndexRises after
  pub entries : (e : LspOfCall) → has_entry e after ≡ (if e.call.0 == n.0 then false else has_entry e before)

-- this call has no entry
abbrev pub HasNoEntry : CallNo → List LspOfCall → Type 0
HasNoEntry n es = (l : Option Lsp) → has_entry (record { lsp = l; call = n }) es ≡ false

-- this call has an entry of this LSP, and no other
abbrev pub HasJust : CallNo → Option Lsp → List LspOfCall → Type 0
HasJust n k es = (l : Option Lsp) → has_entry (record { lsp = l; call = n }) es ≡ is_same k l

-- What is found

-- no call has this LSP, or this is the least number of those that have it
abbrev pub IsFirstCall : Lsp → List LspOfCall → Option CallNo → Type 0
IsFirstCall l es None = AllByRecursion (λ x. is_same x.lsp (Some l) ≡ false) es
IsFirstCall l es (Some n) =
    IsTrue (has_entry (record { lsp = Some l; call = n }) es)
    × AllByRecursion (λ x. is_same x.lsp (Some l) ≡ true → n.0 ≤ x.call.0) es

abbrev pub call_there : Option LspOfCall → Lsp → Option CallNo
call_there None l = None
call_there (Some x) l = if is_same x.lsp (Some l) then Some x.call else None

-- The index of calls after a call comes, changes or goes.
use Rattle.std.proofs.Common.{◌≡◌, Bool, true, false, cond, nat_eq, List, refl, sym, ap, subst, ◌∙◌}
use Rattle.std.specs.Prelude.{Option, Some, None}
use Rattle.ason_base.specs.{declared.ids.CallNo.CallNo, declared.ids.Lsp.Lsp, declared.tables.CallRec.CallRec}
use Rattle.ason_base.proofs.Numbers.{number-turned}
use Rattle.mesh_rules.specs.Calls.{find_call, with_call, without_call}
use Rattle.mesh_nodes.proofs.CallList.{find-with_call, find-without_call, found-number}
use Rattle.leg_table.specs.{declared.lsp_index.LspOfCall.LspOfCall, CallLists.{IsEntryOf, index_entry_of}, LspIndexes.{HasJust, HasNoEntry, IsIndexOf, IsSet, IsTakenOff, has_entry, has_call_lsp, is_same}}

-- The entries of one call

pub none-stands : (of : CallRec → Option Lsp) (n : CallNo) (calls : List CallRec) (es : List LspOfCall) →
    IsIndexOf of calls es → find_call n calls ≡ None → HasNoEntry n es
none-stands of n calls es index none l =
    index.entries (record { lsp = l; call = n }) ∙ ap (λ o. has_call_lsp of o l) none

pub just-stands : (of : CallRec → Option Lsp) (n : CallNo) (calls : List CallRec) (es : List LspOfCall) (c : CallRec) →
    IsIndexOf of calls es → find_call n calls ≡ Some c → HasJust n (of c) es
just-stands of n calls es c index found l =
    index.entries (record { lsp = l; call = n }) ∙ ap (λ o. has_call_lsp of o l) found

-- what the call that stands has, or that it has none
pub entry-stands : (of : CallRec → Option Lsp) (n : CallNo) (calls : List CallRec) (es : List LspOfCall) →
    IsIndexOf of calls es → IsEntryOf n es (index_entry_of of (find_call n calls))
entry-stands of n calls es index = go (find_call n calls) refl
  where
    go : (o : Option CallRec) → find_call n calls ≡ o → IsEntryOf n es (index_entry_of of o)
    go None found = none-stands of n calls es index found
    go (Some c) found = (found-number n calls c found, just-stands of n calls es c index found)

-- the entry that is read of the call that was found
pub entry-found : (of : CallRec → Option Lsp) (n : CallNo) {calls read : List CallRec} {es : List LspOfCall}
    {found : Option CallRec} {entry : Option LspOfCall} → IsIndexOf of calls es → found ≡ find_call n read →
    read ≡ calls → entry ≡ index_entry_of of found → IsEntryOf n es entry
entry-found of n {calls} {read} {es} index is first made =
    subst (IsEntryOf n es) (sym (made ∙ ap (index_entry_of of) (is ∙ ap (find_call n) first)))
    (entry-stands of n calls es index)

-- Calls that come, change or go

has-put : (of : CallRec → Option Lsp) (b : Bool) (c : CallRec) (o : Option CallRec) (l : Option Lsp) →
    has_call_lsp of (cond b (Some c) o) l ≡ cond b (is_same (of c) l) (has_call_lsp of o l)
has-put of true c o l = refl
has-put of false c o l = refl

has-gone : (of : CallRec → Option Lsp) (b : Bool) (o : Option CallRec) (l : Option Lsp) →
    has_call_lsp of (cond b None o) l ≡ cond b false (has_call_lsp of o l)
has-gone of true o l = refl
has-gone of false o l = refl

pub index-with : (of : CallRec → Option Lsp) (c : CallRec) (calls : List CallRec) (es after : List LspOfCall) →
    IsIndexOf of calls es → IsSet c.call (of c) es after → IsIndexOf of (with_call c calls) after
index-with of c calls es after index set = record {
  rises = set.rises;
  entries = λ e.
      set.entries e
      ∙ ap (λ b. cond b (is_same (of c) e.lsp) (has_entry e es)) (number-turned e.call.0 c.call.0)
      ∙ ap (cond (nat_eq c.call.0 e.call.0) (is_same (of c) e.lsp)) (index.entries e)
      ∙ sym (ap (λ o. has_call_lsp of o e.lsp) (find-with_call c calls e.call)
      ∙ has-put of (nat_eq c.call.0 e.call.0) c (find_call e.call calls) e.lsp);
}

pub index-without : (of : CallRec → Option Lsp) (n : CallNo) (calls : List CallRec) (es after : List LspOfCall) →
    IsIndexOf of calls es → IsTakenOff n es after → IsIndexOf of (without_call n calls) after
index-without of n calls es after index off = record {
  rises = off.rises;
  entries = λ e.
      off.entries e ∙ ap (λ b. cond b false (has_entry e es)) (number-turned e.call.0 n.0)
      ∙ ap (cond (nat_eq n.0 e.call.0) false) (index.entries e)
      ∙ sym (ap (λ o. has_call_lsp of o e.lsp) (find-without_call n calls e.call)
      ∙ has-gone of (nat_eq n.0 e.call.0) (find_call e.call calls) e.lsp);
}

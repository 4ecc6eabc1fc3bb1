-- The calls of an ingress with the indexes of their LSPs.
use Rattle.std.specs.Prelude.{ℕ, ◌≡◌, ◌≤◌, ◌+◌, nat_le, Option, Some, None, List, vec_capacity, vec_len, if◌then◌else◌}
use Rattle.ason_base.specs.{declared.ids.CallNo.CallNo, declared.ids.Lsp.Lsp, declared.tables.CallRec.CallRec}
use Rattle.leg_table.specs.{declared.call_list.CallList.CallList, declared.lsp_index.LspOfCall.LspOfCall, LspIndexes.{HasJust, HasNoEntry, IsIndexOf, back_of, work_of}, CallTables.AreCallsRising}

-- the calls rise by number, and the indexes have their working and their backup LSPs
pub record AreCalls (t : CallList) : Type 0 where
  pub rise : AreCallsRising t.calls.items
  pub of_works : IsIndexOf work_of t.calls.items t.works.items
  pub of_backs : IsIndexOf back_of t.calls.items t.backs.items

-- there is room for so many calls more
pub record HasRoomForCalls (n : ℕ) (t : CallList) : Type 0 where
  pub in_calls : vec_len t.calls + n ≤ vec_capacity t.calls
  pub in_works : vec_len t.works + n ≤ vec_capacity t.works
  pub in_backs : vec_len t.backs + n ≤ vec_capacity t.backs

-- at most so many calls more, in the room that there was
pub record GrewBy (n : ℕ) (t after : CallList) : Type 0 where
  pub in_calls : vec_len after.calls ≤ vec_len t.calls + n
  pub in_works : vec_len after.works ≤ vec_len t.works + n
  pub in_backs : vec_len after.backs ≤ vec_len t.backs + n
  pub same_calls : vec_capacity after.calls ≡ vec_capacity t.calls
  pub same_works : vec_capacity after.works ≡ vec_capacity t.works
  pub same_backs : vec_capacity after.backs ≡ vec_capacity t.backs

-- what a call has in an index
abbrev pub index_entry_of : (CallRec → Option Lsp) → Option CallRec → Option LspOfCall
index_entry_of of None = None
index_entry_of of (Some c) = Some (record { lsp = of c; call = c.call })

-- this is what the call of this number has in the index
abbrev pub IsEntryOf : CallNo → List LspOfCall → Option LspOfCall → Type 0
IsEntryOf n es None = HasNoEntry n es
IsEntryOf n es (Some x) = (x.call ≡ n) × HasJust n x.lsp es

-- the lesser of two numbers, where there are two
abbrev pub lesser : Option CallNo → Option CallNo → Option CallNo
lesser None b = b
lesser (Some a) None = Some a
lesser (Some a) (Some b) = if nat_le a.0 b.0 then Some a else Some b

-- The calls of one ingress, in order of number.
use Rattle.std.specs.Prelude.{◌==◌, ◌||◌, nat_lt, Bool, true, false, not, List, [], ◌∷◌, find, filter, Option, Some, None}
use Rattle.ason_base.specs.{declared.ids.CallNo.CallNo, declared.ids.Lsp.Lsp, declared.calls.CallState.CallState, declared.calls.CallState.TheVariants.{Asking, Bare, Blocked, Guarded, Pairing, Stuck, Turned, Turning}, declared.calls.Cause.Cause, declared.calls.Cause.TheVariants.Unset, declared.tables.CallRec.CallRec, InOrder.put_by, Lsps.is_lsp}
use Rattle.mesh_rules.specs.{declared.changes.CallChange.CallChange, declared.changes.CallChange.TheVariants.{Goes, Put}}

abbrev pub same_call : CallNo → CallNo → Bool
same_call n m = n.0 == m.0

abbrev pub earlier_call : CallNo → CallNo → Bool
earlier_call n m = nat_lt n.0 m.0

abbrev pub find_call : CallNo → List CallRec → Option CallRec
find_call n calls = find (λ c. c.call.0 == n.0) calls

-- the call has this LSP, as its working or as its backup LSP
abbrev pub names : Lsp → CallRec → Bool
names l c = is_lsp c.work l || is_lsp c.back l

-- the call that has this LSP
abbrev pub call_with : Lsp → List CallRec → Option CallRec
call_with l calls = find (names l) calls

abbrev pub without_call : CallNo → List CallRec → List CallRec
without_call n calls = filter (λ c. not (c.call.0 == n.0)) calls

-- with this call, in place of the one of its number or before the greater ones
abbrev pub with_call : CallRec → List CallRec → List CallRec
with_call c calls = put_by same_call earlier_call (λ d. d.call) c calls

abbrev pub call_changed : CallChange → List CallRec → List CallRec
call_changed (Goes n) calls = without_call n calls
call_changed (Put c) calls = with_call c calls

-- the calls after these changes, one after the other
abbrev pub calls_changed : List CallChange → List CallRec → List CallRec
calls_changed [] calls = calls
calls_changed (c ∷ cs) calls = calls_changed cs (call_changed c calls)

-- States

abbrev pub is_asking : CallState → Bool
is_asking Asking = true
is_asking _ = false

abbrev pub is_bare : CallState → Bool
is_bare Bare = true
is_bare _ = false

abbrev pub is_pairing : CallState → Bool
is_pairing Pairing = true
is_pairing _ = false

abbrev pub is_turning : CallState → Bool
is_turning Turning = true
is_turning _ = false

abbrev pub is_turned : CallState → Bool
is_turned Turned = true
is_turned _ = false

abbrev pub is_stuck : CallState → Bool
is_stuck Stuck = true
is_stuck _ = false

-- a call whose working LSP is gone
abbrev pub blocked : CallRec → Cause → CallRec
blocked c cause = record c { state = Blocked; work = None; work_reports = []; cause = cause; ticks = 0 }

-- a call whose working LSP stands, without a backup
abbrev pub bare : CallRec → CallRec
bare c = record c { state = Bare; cause = Unset; ticks = 0 }

-- a call that got no backup, for this cause
abbrev pub unbacked : CallRec → Cause → CallRec
unbacked c cause = record c { state = Bare; back = None; back_reports = []; cause = cause; ticks = 0 }

-- a call whose backup is asked for
abbrev pub pairing : CallRec → Lsp → CallRec
pairing c l = record c { state = Pairing; back = Some l; back_reports = []; cause = Unset; ticks = 0 }

-- a call whose backup is reserved
abbrev pub guarded : CallRec → CallRec
guarded c = record c { state = Guarded; cause = Unset; ticks = 0 }

-- a call whose backup is being activated
abbrev pub turning : CallRec → CallRec
turning c = record c { state = Turning; cause = Unset; ticks = 0 }

-- a call that its backup carries
abbrev pub turned : CallRec → CallRec
turned c = record c { state = Turned; cause = Unset; ticks = 0 }

-- a call whose backup can't be activated, for this cause
abbrev pub stuck : CallRec → Cause → CallRec
stuck c cause = record c { state = Stuck; cause = cause; ticks = 0 }

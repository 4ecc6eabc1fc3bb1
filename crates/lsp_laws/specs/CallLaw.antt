-- In every state of every run the state of a call fits its legs at the ingress and its reports, and each leg there is
-- of one call.
use Rattle.std.specs.{Prelude.{◌≡◌, ◌<◌, ◌==◌, ◌&&◌, ◌||◌, ℕ, Bool, true, false, not, List, Option, Some, None, IsTrue, All, IfSome}, List.{AllPairs, count_by}}
use Rattle.ason_base.specs.{declared.ids.NodeId.NodeId, declared.ids.Lsp.Lsp, declared.calls.CallState.CallState, declared.calls.CallState.TheVariants.{Asking, Bare, Blocked, Guarded, Pairing, Stuck, Turned, Turning}, declared.calls.Cause.Cause, declared.calls.Cause.TheVariants.Unset, declared.calls.Phase.Phase, declared.calls.Phase.TheVariants.{Armed, Asked, Held, Live}, declared.calls.Role.Role, declared.calls.Role.TheVariants.{Work, Back}, declared.messages.PathRole.PathRole, declared.tables.CallRec.CallRec, declared.tables.Leg.Leg, Network.Network}
use Rattle.ason_base.specs.declared.messages.PathRole.TheVariants as path
use Rattle.mesh_rules.specs.{declared.events.MeshEvent.MeshEvent, Calls.{is_bare, is_turned, names}, Legs.{find_leg, is_closing, leg_of}, Pairs.{beside_lsp, is_two_way}, State.NodeState, Turns.has_any, Machine.start, Events.{IsRun, after}}

-- The state of a call

-- the phase of a leg, where it stands
abbrev pub phase_of : Option Leg → Option Phase
phase_of None = None
phase_of (Some g) = Some g.phase

-- the state of a call with the phases of its working and its backup leg, none where no leg stands
abbrev pub phases_fit : CallState → Option Phase → Option Phase → Bool
phases_fit Asking (Some Asked) None = true
phases_fit Bare (Some Live) None = true
phases_fit Pairing (Some Live) (Some Asked) = true
phases_fit Guarded (Some Live) (Some Held) = true
phases_fit Turning (Some Live) (Some Armed) = true
phases_fit Turned (Some Live) (Some Live) = true
phases_fit Stuck (Some Live) (Some Held) = true
phases_fit Blocked None None = true
phases_fit state work back = false

-- by the state, whether fibres of the working LSP may be reported down, and whether fibres of the backup may be: a call
-- without a backup has no report of one, a guarded call none of its working LSP, a stuck call has one of that, and a
-- turned call has one of its backup only beside one of its working LSP
abbrev pub fits_reports : CallState → Bool → Bool → Bool
fits_reports Asking works backs = not backs
fits_reports Bare works backs = not backs
fits_reports Pairing works backs = true
fits_reports Guarded works backs = not works
fits_reports Turning works backs = true
fits_reports Turned works backs = not backs || works
fits_reports Stuck works backs = works
fits_reports Blocked works backs = not (works || backs)

-- an LSP that a call names: it begins at this node, its number was given out, and its leg stands here
pub record IsNamed (n : ℕ) (next : ℕ) (legs : List Leg) (role : Role) (egress : NodeId) (l : Lsp) : Type 0 where
  pub ingress : l.ingress.0 ≡ n
  pub number : l.lsp < next
  pub leg : (g : Leg) × (find_leg l legs ≡ Some g) × (g.role ≡ role) × (g.egress ≡ egress)

-- a Path of the backup b that names w as the working LSP that it guards, which is of the same ingress and tunnel
abbrev pub GuardsWork : Lsp → Lsp → PathRole → Type 0
GuardsWork w b (path.Work guard) = ⊥
GuardsWork w b (path.Back active work primary) = w ≡ beside_lsp b work

-- the state of a call fits its legs at its ingress n, and its reports
pub record FitsLegs (n : ℕ) (next : ℕ) (legs : List Leg) (c : CallRec) : Type 0 where
  pub state : IsTrue (phases_fit c.state (phase_of (leg_of c.work legs)) (phase_of (leg_of c.back legs)))
  pub work : IfSome c.work (IsNamed n next legs Work c.egress)
  pub back : IfSome c.back (IsNamed n next legs Back c.egress)
  -- the backup's Path names the working LSP
  pub guards : (w b : Lsp) (g : Leg) → c.work ≡ Some w → c.back ≡ Some b → find_leg b legs ≡ Some g →
      GuardsWork w b g.path_role
  -- and the backup is two-way just where the working LSP is
  pub ways : (w b : Lsp) (g h : Leg) → c.work ≡ Some w → c.back ≡ Some b → find_leg w legs ≡ Some g →
      find_leg b legs ≡ Some h → is_two_way h ≡ is_two_way g
  pub reports : IsTrue (fits_reports c.state (has_any c.work_reports) (has_any c.back_reports))

-- The legs of a call

-- the LSP begins at this node, and its leg isn't torn
abbrev pub wants_call : ℕ → Leg → Bool
wants_call n g = g.lsp.ingress.0 == n && not (is_closing g.phase)

-- just one call names the leg's LSP
abbrev pub IsOfOneCall : List CallRec → Leg → Type 0
IsOfOneCall calls g = count_by (names g.lsp) calls ≡ 1

-- At one node: the calls stand in order of number, no number twice; each fits its legs and its reports; and each leg
-- that begins here and isn't torn is of just one call.
pub record CallsFit (n : ℕ) (s : NodeState) : Type 0 where
  pub rising : AllPairs (λ c d. c.call.0 < d.call.0) s.calls
  pub calls : All (FitsLegs n s.lsp s.legs) s.calls
  pub legs : All (λ g. IsTrue (wants_call n g) → IsOfOneCall s.calls g) s.legs

-- over every network and every run, at each node
abbrev pub EveryCallFitsItsLegs : Type 0
EveryCallFitsItsLegs =
    (t : Network) (events : List MeshEvent) → IsRun t start events → (n : ℕ) →
    CallsFit n ((after t start events).nodes n)

-- The cause and the ticks of a call

abbrev pub is_unset : Cause → Bool
is_unset Unset = true
is_unset cause = false

-- a blocked call and a stuck one have a cause, a bare one may have one, and any other has none
abbrev pub fits_cause : CallState → Cause → Bool
fits_cause Blocked cause = not (is_unset cause)
fits_cause Stuck cause = not (is_unset cause)
fits_cause Bare cause = true
fits_cause state cause = is_unset cause

-- a call counts ticks where it turned and no fibre of its working LSP is reported down
abbrev pub fits_ticks : CallState → Bool → ℕ → Bool
fits_ticks state works ticks = ticks == 0 || (is_turned state && not works)

-- a protected call that is bare has a cause: a backup was asked for, or couldn't be
abbrev pub fits_protected : CallState → Cause → Bool → Bool
fits_protected state cause protected = not (is_bare state && (is_unset cause && protected))

pub record IsTidy (c : CallRec) : Type 0 where
  pub cause : IsTrue (fits_cause c.state c.cause)
  pub ticks : IsTrue (fits_ticks c.state (has_any c.work_reports) c.ticks)
  pub paired : IsTrue (fits_protected c.state c.cause c.protected)

abbrev pub CallsAreTidy : List CallRec → Type 0
CallsAreTidy calls = All IsTidy calls

-- over every network and every run, at each node
abbrev pub EveryCallIsTidy : Type 0
EveryCallIsTidy =
    (t : Network) (events : List MeshEvent) → IsRun t start events → (n : ℕ) →
    CallsAreTidy ((after t start events).nodes n).calls

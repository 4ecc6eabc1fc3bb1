-- While one group alone has failed, each call with a reserved backup is restored by the time that nothing is under way
-- (shared mesh restoration: RFC 4872, section 8): it is carried from end to end over fibres that are all up, by its
-- backup where its working LSP is hit.
use Rattle.std.specs.{Prelude.{◌≡◌, ℕ, Bool, false, List, Option, Some, None, IsTrue, All, if◌then◌else◌}, List.list_any}
use Rattle.ason_base.specs.{Network.{IsTopology, Network, find_link}, declared.calls.CallState.TheVariants.Turned, declared.commands.Group.Group, declared.ids.Lsp.Lsp, declared.network.LinkSpec.LinkSpec, declared.steps.Step.Step, declared.tables.CallRec.CallRec, declared.tables.Leg.Leg}
use Rattle.mesh_rules.specs.{declared.events.MeshEvent.MeshEvent, Calls.is_turned, Events.{IsRun, after, route_of}, Failures.is_cut, Legs.{is_beyond_asked, leg_of}, Machine.start, Quiet.IsQuiet, State.NodeState}
use Rattle.lsp_laws.specs.JoinedLaw.{IsJoinedFor, IsLive}
use Rattle.mesh_laws.specs.AloneLaw.{Alone}

-- What is hit

-- both fibres of the link are physically down, where these groups have failed
abbrev pub is_link_cut : List Group → Option LinkSpec → Bool
is_link_cut failed None = false
is_link_cut failed (Some l) = is_cut failed l

-- a fibre of the route is
abbrev pub is_route_cut : Network → List Group → Option (List Step) → Bool
is_route_cut t failed None = false
is_route_cut t failed (Some route) = list_any (λ hop. is_link_cut failed (find_link t hop.link)) route

-- of an LSP of a call: a fibre of the route that its ingress sent it on is physically down
abbrev pub is_lsp_hit : Network → List MeshEvent → Option Lsp → Bool
is_lsp_hit t events None = false
is_lsp_hit t events (Some l) = is_route_cut t (after t start events).failed (route_of t start events l)

-- Calls at their ingress

abbrev pub is_label_reserved : Option Leg → Bool
is_label_reserved None = false
is_label_reserved (Some b) = is_beyond_asked b.phase

-- the ingress has the leg of the call's backup, Held, Armed or Live
abbrev pub is_guarded : NodeState → CallRec → Bool
is_guarded s c = is_label_reserved (leg_of c.back s.legs)

-- the LSP that carries the call: its backup where it turned, else its working LSP
abbrev pub carrier : CallRec → Option Lsp
carrier c = if is_turned c.state then c.back else c.work

-- A call is restored: where its working LSP is hit it turned to its backup. Hit or not, the LSP that carries it is
-- cross-connected from end to end, both ways where the call is two-way, and none of its fibres is physically down,
-- there or back.
pub record IsRestored (t : Network) (events : List MeshEvent) (c : CallRec) : Type 0 where
  pub turned : IsTrue (is_lsp_hit t events c.work) → c.state ≡ Turned
  pub joined : IsJoinedFor t events IsLive c (carrier c)
  pub up : is_lsp_hit t events (carrier c) ≡ false

-- Where since a calm state one group alone failed, each desk is empty and no message is under way, each call that is
-- guarded is restored, at each node.
abbrev pub RestorationHolds : Network → List MeshEvent → Type 0
RestorationHolds t events =
    (g : Group) → Alone t events g → IsQuiet (after t start events) → (n : ℕ) →
    All (λ c. IsTrue (is_guarded ((after t start events).nodes n) c) → IsRestored t events c)
    ((after t start events).nodes n).calls

-- over every topology and every run
abbrev pub EveryHitCallIsRestored : Type 0
EveryHitCallIsRestored =
    (t : Network) (events : List MeshEvent) → IsTopology t → IsRun t start events → RestorationHolds t events

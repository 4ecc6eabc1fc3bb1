-- Which calls would contend for a label where two groups fail; and where none would, no activation is refused, in
-- whatever order the two fail and are repaired (RFC 4872, section 8).
use Rattle.std.specs.{Prelude.{◌≡◌, ℕ, List, [], ◌∷◌, ◌++◌, Some, IsTrue, Contains}, List.AllByRecursion}
use Rattle.ason_base.specs.{Network.{IsTopology, Network}, declared.calls.Phase.TheVariants.Live, declared.calls.Role.TheVariants.Work, declared.commands.Command.TheVariants.{Setup, Release, Protect, Retry, Revert, Fail, Repair}, declared.commands.Group.Group, declared.ids.Fibre.Fibre, declared.ids.Lsp.Lsp, declared.ids.NodeId.NodeId, declared.tables.CallRec.CallRec, declared.tables.Leg.Leg}
use Rattle.mesh_rules.specs.{declared.events.MeshEvent.MeshEvent, declared.events.MeshEvent.TheVariants.{Take, Desk, Tick, Learn, Post}, Calls.find_call, Events.{IsRun, after}, Legs.takes, Machine.{Mesh, start}, Quiet.IsQuiet}
use Rattle.lsp_laws.specs.HopLaw.{leg_at}
use Rattle.mesh_laws.specs.{AloneLaw.{Calm, NoneRefused, is_on_link}, RestorationLaw.is_guarded}

-- Calls that would contend

-- A working leg of the call is Live and leads out over a link of the group.
pub record IsHitBy (t : Network) (s : Mesh) (g : Group) (c : CallRec) : Type 0 where
  pub work : Lsp
  pub named : c.work ≡ Some work
  pub node : NodeId
  pub leg : Leg
  pub there : leg_at s work node ≡ Some leg
  pub role : leg.role ≡ Work
  pub live : leg.phase ≡ Live
  pub fibre : Fibre
  pub leads : leg.out_fibre ≡ Some fibre
  pub on_link : IsTrue (is_on_link t g fibre.link)

-- The call's backup takes the label of this fibre, which comes in at this node, on its way there or back.
pub record TakesLabel (s : Mesh) (c : CallRec) (n : NodeId) (f : Fibre) (x : ℕ) : Type 0 where
  pub back : Lsp
  pub named : c.back ≡ Some back
  pub leg : Leg
  pub there : leg_at s back n ≡ Some leg
  pub label : IsTrue (takes f x leg)

-- Where the group fails, the call of this ingress turns to a backup that needs the label.
pub record MayTurnTo (t : Network) (s : Mesh) (g : Group) (n : NodeId) (f : Fibre) (x : ℕ) (at : NodeId) (c : CallRec) :
    Type 0 where
  pub there : find_call c.call (s.nodes at.0).calls ≡ Some c
  pub guarded : IsTrue (is_guarded (s.nodes at.0) c)
  pub hit : IsHitBy t s g c
  pub label : TakesLabel s c n f x

-- Two calls would contend for a label where both groups fail: the first group hits the one call, the second the other.
pub record Contend (t : Network) (s : Mesh) (g h : Group) : Type 0 where
  pub node : NodeId
  pub fibre : Fibre
  pub label : ℕ
  pub one_at : NodeId
  pub one : CallRec
  pub two_at : NodeId
  pub two : CallRec
  pub one_turns : MayTurnTo t s g node fibre label one_at one
  pub two_turns : MayTurnTo t s h node fibre label two_at two
  pub differ : one_at ≡ two_at → one.call ≡ two.call → ⊥

-- no two calls would, whichever of the groups comes first
abbrev pub NoneContend : Network → Mesh → Group → Group → Type 0
NoneContend t s g h = (Contend t s g h → ⊥) × (Contend t s h g → ⊥)

-- While the two fail

-- Nothing is set up, released or protected in this event, and no group but these fails or is repaired.
abbrev pub GoesOnWith : List Group → MeshEvent → Type 0
GoesOnWith gs (Take d u) = Unit {0}
GoesOnWith gs (Desk n) = Unit {0}
GoesOnWith gs (Tick n) = Unit {0}
GoesOnWith gs (Learn n k) = Unit {0}
GoesOnWith gs (Post (Setup n from to protected both via backup)) = ⊥
GoesOnWith gs (Post (Release n from)) = ⊥
GoesOnWith gs (Post (Protect n from)) = ⊥
GoesOnWith gs (Post (Retry n from)) = Unit {0}
GoesOnWith gs (Post (Revert n from)) = Unit {0}
GoesOnWith gs (Post (Fail h)) = Contains gs h
GoesOnWith gs (Post (Repair h)) = Contains gs h

-- Since a quiet and calm state of the run these two groups alone failed and were repaired, and nothing was set up,
-- released or protected.
pub record TwoAlone (t : Network) (events : List MeshEvent) (g h : Group) : Type 0 where
  pub before : List MeshEvent
  pub since : List MeshEvent
  pub parts : before ++ since ≡ events
  pub quiet : IsQuiet (after t start before)
  pub calm : Calm (after t start before)
  pub only : AllByRecursion (GoesOnWith (g ∷ h ∷ [])) since

-- Where no calls would contend in that state, no activation was refused since, at its ingress or on its way, and no
-- refusal was passed back.
abbrev pub UncontendedAreAdmitted : Network → List MeshEvent → Type 0
UncontendedAreAdmitted t events =
    (g h : Group) (two : TwoAlone t events g h) → NoneContend t (after t start two.before) g h →
    NoneRefused t (after t start two.before) two.since

-- over every topology and every run
abbrev pub NoContend : Type 0
NoContend =
    (t : Network) (events : List MeshEvent) → IsTopology t → IsRun t start events → UncontendedAreAdmitted t events

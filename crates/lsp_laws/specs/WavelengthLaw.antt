-- In every state of every run the wavelength of a call's LSP changes along its route at converting nodes alone, and is
-- on each link one of those of the link. So it is with the one on which light of a two-way call comes back.
use Rattle.std.specs.Prelude.{◌≡◌, ℕ, suc, Bool, true, false, List, Option, Some, None, IsTrue, All, IfSome, slice_get}
use Rattle.ason_base.specs.{declared.ids.LinkId.LinkId, declared.ids.Lsp.Lsp, declared.ids.NodeId.NodeId, declared.steps.Step.Step, declared.tables.CallRec.CallRec, declared.tables.Leg.Leg, Labels.{has, up_to}, Network.{Network, find_link, find_node}}
use Rattle.mesh_rules.specs.{declared.events.MeshEvent.MeshEvent, Events.{IsRun, after, route_of}, LocalNodes.{converts, labels_of}, Machine.{Mesh, start}}
use Rattle.lsp_laws.specs.{HopLaw.leg_at, JoinedLaw.goes_both_ways, StandLaw.{has_backup, is_standing_call}}

abbrev pub leg_out_label : Option Leg → Option ℕ
leg_out_label None = None
leg_out_label (Some g) = g.out_label

-- the wavelength on which the LSP leaves this node
abbrev pub wavelength_from : Mesh → Lsp → NodeId → Option ℕ
wavelength_from s l n = leg_out_label (leg_at s l n)

abbrev pub back_label_of : Option Leg → Option ℕ
back_label_of None = None
back_label_of (Some g) = g.back_in

-- the wavelength on which the LSP comes back to this node
abbrev pub wavelength_back : Mesh → Lsp → NodeId → Option ℕ
wavelength_back s l n = back_label_of (leg_at s l n)

-- there is a wavelength, and it is one of the link's
abbrev pub IsOfLink : Network → LinkId → Option ℕ → Type 0
IsOfLink t k wavelength =
    (x : ℕ) × (wavelength ≡ Some x) × IsTrue (has (up_to (labels_of (find_link t k))) x)

-- over the link of this step the LSP has one of the link's wavelengths
abbrev pub HasWavelengthOfLink : Network → Mesh → Lsp → Step → Type 0
HasWavelengthOfLink t s l hop = IsOfLink t hop.link (wavelength_from s l hop.node)

-- over that link a two-way LSP comes back on one of the link's wavelengths, and a one-way LSP on none
abbrev pub ComesBackOnOneOfLink : Network → Mesh → Bool → Lsp → Step → Type 0
ComesBackOnOneOfLink t s false l hop = wavelength_back s l hop.node ≡ None
ComesBackOnOneOfLink t s true l hop = IsOfLink t hop.link (wavelength_back s l hop.node)

-- along a route: a wavelength over each link, and the same one over two links between which a node doesn't convert; so
-- it is on the way back of a two-way LSP
pub record KeepsWavelength (t : Network) (s : Mesh) (two_way : Bool) (l : Lsp) (route : List Step) : Type 0 where
  pub of_link : (i : ℕ) (hop : Step) → slice_get route i ≡ Some hop → HasWavelengthOfLink t s l hop
  pub one : (i : ℕ) (hop next : Step) → slice_get route i ≡ Some hop → slice_get route (suc i) ≡ Some next →
      converts (find_node t next.node) ≡ false → wavelength_from s l next.node ≡ wavelength_from s l hop.node
  pub back_of_link : (i : ℕ) (hop : Step) → slice_get route i ≡ Some hop → ComesBackOnOneOfLink t s two_way l hop
  pub one_back : (i : ℕ) (hop next : Step) → slice_get route i ≡ Some hop → slice_get route (suc i) ≡ Some next →
      converts (find_node t next.node) ≡ false → wavelength_back s l next.node ≡ wavelength_back s l hop.node

-- along the route that its ingress sent it on
abbrev pub LspKeepsWavelength : Network → List MeshEvent → Bool → Lsp → Type 0
LspKeepsWavelength t events two_way l =
    (route : List Step) → route_of t start events l ≡ Some route →
    KeepsWavelength t (after t start events) two_way l route

-- the LSP of this call, its working one or its backup, both ways where the call is two-way
abbrev pub KeepsWavelengthFor : Network → List MeshEvent → CallRec → Lsp → Type 0
KeepsWavelengthFor t events c l = LspKeepsWavelength t events (goes_both_ways (after t start events) c.work) l

-- the working LSP of a call that stands does so, and the backup that is reserved for it
pub record CallKeepsWavelengths (t : Network) (events : List MeshEvent) (c : CallRec) : Type 0 where
  pub work : IsTrue (is_standing_call c.state) → IfSome c.work (KeepsWavelengthFor t events c)
  pub back : IsTrue (has_backup c.state) → IfSome c.back (KeepsWavelengthFor t events c)

abbrev pub CallsKeepWavelengths : Network → List MeshEvent → Type 0
CallsKeepWavelengths t events = (n : ℕ) → All (CallKeepsWavelengths t events) ((after t start events).nodes n).calls

-- over every network and every run, at each node
abbrev pub EveryCallKeepsItsWavelengths : Type 0
EveryCallKeepsItsWavelengths =
    (t : Network) (events : List MeshEvent) → IsRun t start events → CallsKeepWavelengths t events

-- A leg that is found at a node, its neighbours, and what is sent to one of them.
use Rattle.std.proofs.Common.{◌≡◌, ◌≤◌, ℕ, true, [], List, length, sym, subst, arith}
use Rattle.std.specs.Prelude.{Option, Some, None, IfSome}
use Rattle.ason_base.specs.{declared.ids.Lsp.Lsp, declared.tables.Leg.Leg, declared.tables.Out.Out}
use Rattle.ason_base.proofs.Options.{some-of}
use Rattle.mesh_rules.specs.{declared.neighbours.Neighbour.Neighbour, Activations.resv_to, Legs.{find_leg, following, previous}, LocalNodes.LocalNode, State.NodeState}
use Rattle.mesh_nodes.specs.{FitNodes.{LegFits, NodeFits}, LocalNodes.{is_downstream, is_neighbour, is_upstream}, Sent.{AllToNeighbours, AllWritable}}
use Rattle.mesh_nodes.proofs.{LegList.{found-all, found-lsp}, Links.{downstream-near, upstream-near}}

pub record LegStands (p : LocalNode) (s : NodeState) (g : Leg) : Type 0 where
  pub found : find_leg g.lsp s.legs ≡ Some g
  pub fits : LegFits p s.lsp g

pub leg-stands : (p : LocalNode) (s : NodeState) (l : Lsp) (g : Leg) → NodeFits p s → find_leg l s.legs ≡ Some g →
    LegStands p s g
leg-stands p s l g fits found = record {
  found = subst (λ k. find_leg k s.legs ≡ Some g) (sym (found-lsp l s.legs g found)) found;
  fits = found-all (LegFits p s.lsp) l s.legs g found fits.legs.each;
}

if-some : {X : Type 0} (P Q : X → Type 0) (o : Option X) → ((x : X) → P x → Q x) → IfSome o P → IfSome o Q
if-some P Q None f here = tt
if-some P Q (Some x) f here = f x here

pub previous-near : (p : LocalNode) (next : ℕ) (g : Leg) → LegFits p next g →
    IfSome (previous g) (λ h. is_neighbour p h.node ≡ true)
previous-near p next g fits =
    if-some (λ h. is_upstream p h ≡ true) (λ h. is_neighbour p h.node ≡ true) (previous g)
    (λ h. upstream-near p h) fits.upstream

pub following-near : (p : LocalNode) (next : ℕ) (g : Leg) → LegFits p next g →
    IfSome (following g) (λ h. is_neighbour p h.node ≡ true)
following-near p next g fits =
    if-some (λ h. is_downstream p h ≡ true) (λ h. is_neighbour p h.node ≡ true) (following g)
    (λ h. downstream-near p h) fits.downstream

pub previous-is_near : (p : LocalNode) (next : ℕ) (g : Leg) (h : Neighbour) → LegFits p next g → previous g ≡ Some h →
    is_neighbour p h.node ≡ true
previous-is_near p next g h fits e = some-of (λ k. is_neighbour p k.node ≡ true) (previous g) h e
    (previous-near p next g fits)

pub following-is_near : (p : LocalNode) (next : ℕ) (g : Leg) (h : Neighbour) → LegFits p next g → following g ≡ Some h →
    is_neighbour p h.node ≡ true
following-is_near p next g h fits e = some-of (λ k. is_neighbour p k.node ≡ true) (following g) h e
    (following-near p next g fits)

-- What is sent

-- at most one message, to a neighbour, that can be written
pub record OneFits (p : LocalNode) (outs : List Out) : Type 0 where
  pub near : AllToNeighbours p outs
  pub written : AllWritable outs
  pub few : length outs ≤ 1

pub none-sent : (p : LocalNode) → OneFits p []
none-sent p = record { near = tt; written = tt; few = omega arith }

-- a Resv to the previous node
pub resv-sent : (p : LocalNode) (next : ℕ) (g : Leg) (o : Option Neighbour) (x : Option ℕ) → LegFits p next g →
    previous g ≡ o → OneFits p (resv_to g o x)
resv-sent p next g None x fits is = none-sent p
resv-sent p next g (Some h) None fits is = none-sent p
resv-sent p next g (Some h) (Some x) fits is =
    record { near = (previous-is_near p next g h fits is, tt); written = (tt, tt); few = omega arith }

-- What a node keeps.
use Rattle.std.specs.{Prelude.{◌≡◌, ◌<◌, ◌≤◌, ◌==◌, ℕ, false, not, List, length, None, IfSome, IsTrue, is_some}, List.AllByRecursion}
use Rattle.ason_base.specs.{declared.tables.CallRec.CallRec, declared.tables.Leg.Leg, Writable.IsWritableRole}
use Rattle.mesh_rules.specs.{declared.limits.TheConstants.{MOST_LEGS, MOST_LINKS_OF_ROUTE}, Legs.{following, is_beyond_asked, is_work, previous}, Paths.is_for_work, Setups.is_followable, LocalNodes.LocalNode, State.NodeState}
use Rattle.mesh_nodes.specs.{Order.{CallsRise, LegsRise}, LocalNodes.{is_downstream, is_upstream}}

-- a leg at p, whose next LSP number is this one
pub record LegFits (p : LocalNode) (next : ℕ) (g : Leg) : Type 0 where
  -- a previous node and a fibre in exactly where another node is the ingress
  pub prev : is_some g.prev ≡ not (g.lsp.ingress.0 == p.id.0)
  pub in_fibre : is_some g.in_fibre ≡ is_some g.prev
  -- a next node and a fibre out exactly where another node is the egress
  pub next_node : is_some g.next ≡ not (g.egress.0 == p.id.0)
  pub out_fibre : is_some g.out_fibre ≡ is_some g.next
  -- they are the other ends and the fibres of links of p
  pub upstream : IfSome (previous g) (λ h. IsTrue (is_upstream p h))
  pub downstream : IfSome (following g) (λ h. IsTrue (is_downstream p h))
  -- a working leg is what a Path of a working LSP made, and a backup what a Path of a backup made
  pub role : is_work g.role ≡ is_for_work g.path_role
  -- beyond Asked a label in where there is a fibre in, and a label out where there is a fibre out
  pub in_label : IsTrue (is_beyond_asked g.phase) → is_some g.in_label ≡ is_some g.in_fibre
  pub out_label : IsTrue (is_beyond_asked g.phase) → is_some g.out_label ≡ is_some g.out_fibre
  -- a leg that isn't beyond Asked has no label in
  pub bare : is_beyond_asked g.phase ≡ false → g.in_label ≡ None
  -- an LSP that begins here has a number that was given out, ends elsewhere, and goes on over at most 62 links
  pub number : g.lsp.ingress.0 ≡ p.id.0 → g.lsp.lsp < next
  pub leaves : g.lsp.ingress.0 ≡ p.id.0 → g.egress.0 == p.id.0 ≡ false
  pub short : g.lsp.ingress.0 ≡ p.id.0 → length g.route < MOST_LINKS_OF_ROUTE
  -- and what its Path says of the primary route can be written
  pub says : g.lsp.ingress.0 ≡ p.id.0 → IsWritableRole g.path_role
  -- the set that is sent on isn't empty
  pub set : IsTrue (is_some g.next) → 1 ≤ length g.sent

-- in order of LSP, each of them at p, and no more than a node keeps
pub record LegsFit (p : LocalNode) (next : ℕ) (legs : List Leg) : Type 0 where
  pub rise : LegsRise legs
  pub each : AllByRecursion (LegFits p next) legs
  pub few : length legs ≤ MOST_LEGS

-- the backup route that was given can be followed from p, and the call's LSPs begin there
pub record CallFits (p : LocalNode) (c : CallRec) : Type 0 where
  pub backup : IsTrue (is_followable p c.backup)
  pub work : IfSome c.work (λ l. l.ingress.0 ≡ p.id.0)
  pub back : IfSome c.back (λ l. l.ingress.0 ≡ p.id.0)

-- in order of number, each of them at p
pub record CallsFitNode (p : LocalNode) (calls : List CallRec) : Type 0 where
  pub rise : CallsRise calls
  pub each : AllByRecursion (CallFits p) calls

-- the legs and calls fit, and the next tunnel number is at least 1 and at most the next LSP number
pub record NodeFits (p : LocalNode) (s : NodeState) : Type 0 where
  pub legs : LegsFit p s.lsp s.legs
  pub calls : CallsFitNode p s.calls
  pub first : 1 ≤ s.tunnel
  pub numbers : s.tunnel ≤ s.lsp

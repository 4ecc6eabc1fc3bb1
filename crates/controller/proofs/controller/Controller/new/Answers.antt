use Rattle.std.proofs.Common.{sym, ap, subst}
use Rattle.mesh_rules.specs.LocalNodes.{LocalNode}
use Rattle.mesh_nodes.specs.Nodes.{NodeView}
use Rattle.control_channels.specs.ReadyControllers.{FloodFits, IsKeptAfter}
use Rattle.controller.proofs.controller.Controller.new.Goals as goal

pub invariant_of-result : goal.invariant_of-result
invariant_of-result c = (
  subst (λ (p : LocalNode). IsKeptAfter p c.in_ok-adjacencies.adjacencies.items 0)
      (sym (ap (λ (n : NodeView). n.place) c.in_ok-node.ensures)) c.in_ok-adjacencies.ensures.kept,
  subst (λ (n : NodeView). FloodFits n.place n.state c.in_ok-flood.flood) (sym c.in_ok-node.ensures)
      c.in_ok-flood.ensures.fits,
)

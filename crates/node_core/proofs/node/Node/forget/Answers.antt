use Rattle.std.proofs.Common.{◌≤◌, ◌∙◌, length, sym, ap, subst}
use Rattle.leg_table.specs.{LegClaims.AreOfOneNode, Tables.LegTable}
use Rattle.mesh_nodes.specs.Nodes.{IsNode, NodeView, without_last}
use Rattle.node_core.specs.Nodes.{node_view_of}
use Rattle.node_core.proofs.Forgetting.{node-forgets, own-rows-stay}
use Rattle.node_core.proofs.node.Node.forget.Goals as goal

pub returns : goal.returns
returns c =
    let some : 1 ≤ length (node_view_of c.self.inside.tables c.self.inside.calls).state.learnt =
    subst (λ (n : NodeView). 1 ≤ length n.state.learnt) (sym c.self.view_is) c.requires.learnt in
    node-forgets c.self.inside.tables c.forget.new.self c.self.inside.calls c.forget.ensures some
    ∙ ap without_last c.self.view_is

pub invariant_of-self : goal.invariant_of-self
invariant_of-self c =
    let some : 1 ≤ length (node_view_of c.self.inside.tables c.self.inside.calls).state.learnt =
    subst (λ (n : NodeView). 1 ≤ length n.state.learnt) (sym c.self.view_is) c.requires.learnt in (
      subst IsNode (ap without_last (sym c.self.view_is) ∙ sym
          (node-forgets c.self.inside.tables c.forget.new.self c.self.inside.calls c.forget.ensures some))
          c.requires.fits,
      subst (λ (t : LegTable). AreOfOneNode t c.self.inside.owner c.self.inside.shares) (sym c.forget.ensures) record {
        labels = c.self.invariant.1.labels;
        fibres = c.self.invariant.1.fibres;
        rows = own-rows-stay c.self.inside.tables c.self.invariant.1.rows some;
      },
    )

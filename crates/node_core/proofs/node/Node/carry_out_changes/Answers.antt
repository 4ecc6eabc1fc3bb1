use Rattle.std.proofs.Common.{◌≡◌, ◌∙◌, OnErr, OnOk, ap, subst, sym}
use Rattle.mesh_rules.specs.Changes.{changed}
use Rattle.leg_table.specs.States.{state_of}
use Rattle.mesh_nodes.specs.Nodes.{IsAnswerOf, NodeView}
use Rattle.node_core.specs.Nodes.{node_view_of}
use Rattle.node_core.proofs.Answers.{answered-may, carried-fits, unchanged}
use Rattle.node_core.proofs.node.Node.carry_out_changes.Goals as goal

pub carry_out-requires-clause-may : goal.carry_out-requires-clause-may
carry_out-requires-clause-may c =
    answered-may c.self.inside.tables c.self.inside.calls c.args.change c.requires.0 c.self.invariant.0
    (subst (λ m. IsAnswerOf m (record c.args.change { sent = c.requires.0 })) (sym c.self.view_is) c.requires.1)

pub invariant_of-self : goal.invariant_of-self
invariant_of-self c = (
  carried-fits c.carry_out.result c.self.inside.tables c.self.inside.owner c.self.inside.calls c.carry_out.new.tables
      c.carry_out.new.owner c.carry_out.new.calls c.args.change c.requires.0 c.self.invariant.0
      (subst (λ m. IsAnswerOf m (record c.args.change { sent = c.requires.0 })) (sym c.self.view_is) c.requires.1)
      c.carry_out.ensures.calls,
  c.carry_out.ensures.node,
)

pub returns-clause-place : goal.returns-clause-place
returns-clause-place c = c.carry_out.ensures.calls.local ∙ ap (λ (n : NodeView). n.place) c.self.view_is

pub returns-clause-ok : goal.returns-clause-ok
returns-clause-ok c =
    subst (λ (n : NodeView). OnOk c.carry_out.result
    (state_of c.carry_out.new.tables c.carry_out.new.calls ≡ changed n.state c.args.change))
    c.self.view_is c.carry_out.ensures.calls.ok

pub returns-clause-sent : goal.returns-clause-sent
returns-clause-sent c = c.carry_out.ensures.calls.sent

pub returns-clause-err : goal.returns-clause-err
returns-clause-err c =
    subst (λ (n : NodeView). OnErr c.carry_out.result (node_view_of c.carry_out.new.tables c.carry_out.new.calls ≡ n))
    c.self.view_is
    (unchanged c.carry_out.result c.self.inside.tables c.self.inside.owner c.self.inside.calls c.carry_out.new.tables
    c.carry_out.new.owner c.carry_out.new.calls c.args.change c.carry_out.ensures.calls)

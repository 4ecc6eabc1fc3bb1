use Rattle.std.proofs.Common.{◌≡◌, OnOk, subst}
use Rattle.mesh_nodes.specs.{Nodes.{answer_to, stepped}, declared.inputs.Input.TheVariants.Desk}
use Rattle.control_channels.specs.{Adjacencies.ArePrepared, Controllers.{AddsAnswer, AnswerIsSpelled}}
use Rattle.controller.proofs.reactions.give_item.Goals as goal

pub returns-clause-node : goal.returns-clause-node
returns-clause-node c =
    subst (λ i. OnOk c.give.result (c.give.new.node ≡ stepped c.args.node.now (Desk i))) c.in_ok-item.ensures
    c.give.ensures.node

pub returns-clause-hops : goal.returns-clause-hops
returns-clause-hops c =
    subst (λ i. OnOk c.give.result (ArePrepared c.args.adjacencies.now (answer_to c.args.node.now (Desk i)).sent
    c.give.new.adjacencies)) c.in_ok-item.ensures c.give.ensures.hops

pub returns-clause-frames : goal.returns-clause-frames
returns-clause-frames c =
    subst (λ i. OnOk c.give.result (AddsAnswer c.args.node.now c.args.adjacencies.now
    (answer_to c.args.node.now (Desk i)) c.args.frames.now.items c.give.new.frames.items)) c.in_ok-item.ensures
    c.give.ensures.frames

pub returns-clause-spelled : goal.returns-clause-spelled
returns-clause-spelled c =
    subst (λ i. OnOk c.give.result (AnswerIsSpelled c.args.node.now c.args.adjacencies.now
    (answer_to c.args.node.now (Desk i)))) c.in_ok-item.ensures c.give.ensures.spelled

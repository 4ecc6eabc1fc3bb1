use Rattle.std.proofs.Common.{ap}
use Rattle.mesh_rules.specs.Changes.{Answer}
use Rattle.mesh_nodes.specs.Nodes.{answer_to}
use Rattle.controller.proofs.reactions.carry_out.Goals as goal

pub carry_out_rest-requires : goal.carry_out_rest-requires
carry_out_rest-requires c =
    let answer : Answer = answer_to c.args.node.now c.args.input.now in (
      answer.sent,
      (
        c.args.input.now,
        c.requires.may,
        ap (λ (a : Answer). record a { sent = answer.sent }) c.in_ok-change.ensures.change,
      ),
    )

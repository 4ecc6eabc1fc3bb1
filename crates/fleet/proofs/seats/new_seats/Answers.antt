use Rattle.std.proofs.{Common.{map, ap, ◌∙◌}, lemmas.List.take_all}
use Rattle.ason_base.specs.declared.network.NodeSpec.{NodeSpec}
use Rattle.fleet.proofs.seats.new_seats.Goals as goal

pub returns : goal.returns
returns c =
    let nodes = c.nodes-node-items.result.now in
    record {
      ids =
          c.loop-node.invariant.ids
          ∙ ap (map (λ (n : NodeSpec). n.id)) (take_all c.loop-node.node-index nodes c.loop-node-test.false
          ∙ c.nodes-node-items.ensures.list);
      each = c.loop-node.invariant.each;
    }

use Rattle.node_core.proofs.Answers.{new-fit, new-is}
use Rattle.node_core.proofs.node.Node.new.Goals as goal

pub invariant_of-result : goal.invariant_of-result
invariant_of-result c =
    new-fit c.args.t.now c.args.id c.in_ok-tables.tables c.in_ok-owner.owner c.new-3.result c.new-4.result
    c.links-links.ensures.valid c.in_ok-tables.ensures c.in_ok-owner.ensures.value c.new-3.ensures c.new-4.ensures

pub returns : goal.returns
returns c = new-is c.args.t.now c.args.id c.in_ok-tables.tables c.new-4.result c.in_ok-tables.ensures c.new-4.ensures

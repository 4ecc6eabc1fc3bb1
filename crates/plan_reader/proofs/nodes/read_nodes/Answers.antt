use Rattle.std.proofs.Common.{◌∙◌, sym}
use Rattle.plan_reader.specs.{PlanTables.with_plan_node, declared.faults.PlanEntry.TheVariants.Node}
use Rattle.plan_reader.proofs.Entries.{one_faulty, one_read}
use Rattle.plan_reader.proofs.nodes.read_nodes.Goals as goal

pub returns-in-Err-clause-fault : goal.returns-in-Err-clause-fault
returns-in-Err-clause-fault c =
    let v = c.index-values-i.result in
    let tells =
    one_faulty Node with_plan_node _ c.reading.i c.reading.nodes c.args.values.now v c.in-Err.error c.reading-test.true
    c.index-values-i.is c.in-Err.ensures.fault c.reading.invariant in
    λ f same. tells f (sym c.error_at.ensures ∙ same)

pub reading-preserved : goal.reading-preserved
reading-preserved c =
    let v = c.index-values-i.result in
    one_read Node with_plan_node _ c.reading.i c.reading.nodes c.read_node.new.nodes c.args.values.now v
    c.reading-test.true c.index-values-i.is c.in_default.ensures.ok c.reading.invariant

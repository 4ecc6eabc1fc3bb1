use Rattle.std.proofs.Common.{◌∙◌, sym}
use Rattle.plan_reader.specs.{PlanScript.AddsLine, PlanTables.views, Plans.IsScriptOf, declared.faults.PlanEntry.TheVariants.Script}
use Rattle.plan_reader.proofs.Entries.{one_at_fault, one_said}
use Rattle.plan_reader.proofs.script.read_script.Goals as goal

pub returns-in-Err-clause-fault : goal.returns-in-Err-clause-fault
returns-in-Err-clause-fault c =
    let reads = AddsLine c.args.two_way c.args.t.now c.args.names.now in
    let all = IsScriptOf c.args.two_way c.args.t.now c.args.names.now (views c.args.values.now) in
    let v = c.index-values-i.result in
    λ f same.
    one_at_fault Script reads all c.reading.i c.reading.script c.args.values.now v c.in-Err.error
    c.reading-test.true c.index-values-i.is c.in-Err.ensures.fault c.reading.invariant f (sym c.error_at.ensures ∙ same)

pub reading-preserved : goal.reading-preserved
reading-preserved c =
    let reads = AddsLine c.args.two_way c.args.t.now c.args.names.now in
    let all = IsScriptOf c.args.two_way c.args.t.now c.args.names.now (views c.args.values.now) in
    let v = c.index-values-i.result in
    one_said Script reads all c.reading.i c.reading.script c.read_text.new.read c.args.values.now v
    c.reading-test.true c.index-values-i.is c.in_default.ensures.ok c.reading.invariant

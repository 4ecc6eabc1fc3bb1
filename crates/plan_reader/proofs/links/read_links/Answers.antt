use Rattle.std.proofs.Common.{ap, sym, ◌∙◌}
use Rattle.toml.specs.View.{view}
use Rattle.plan_reader.specs.{PlanTables.{last_link, with_plan_link}, declared.faults.PlanEntry.TheVariants.Link}
use Rattle.plan_reader.proofs.{Entries.{one_faulty, one_read}, SoundLinks.{link_faulty, link_put}}
use Rattle.plan_reader.proofs.links.read_links.Goals as goal

pub returns-in-Err-clause-fault : goal.returns-in-Err-clause-fault
returns-in-Err-clause-fault c =
    let known = c.args.known.now in
    let v = c.index-values-i.result in
    let last = c.last_link.ensures ∙ ap last_link c.deref.ensures.value in
    let before = c.reading.links.items in
    let here = link_faulty known before c.last_link.result (view v) c.in-Err.error last c.in-Err.ensures.fault in
    let tells =
    one_faulty Link (with_plan_link known) _ c.reading.i before c.args.values.now v c.in-Err.error
    c.reading-test.true c.index-values-i.is here c.reading.invariant in
    λ f same. tells f (sym c.error_at.ensures ∙ same)

pub reading-preserved : goal.reading-preserved
reading-preserved c =
    let known = c.args.known.now in
    let v = c.index-values-i.result in
    let last = c.last_link.ensures ∙ ap last_link c.deref.ensures.value in
    let before = c.reading.links.items in
    let after = c.push.new.self.items in
    let put =
    link_put known before after c.last_link.result (view v) c.in-Ok.link last c.in-Ok.ensures.link
    c.in_ok-push-in-Ok.ensures.items in
    one_read Link (with_plan_link known) _ c.reading.i before after c.args.values.now v
    c.reading-test.true c.index-values-i.is put c.reading.invariant

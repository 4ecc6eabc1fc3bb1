use Rattle.std.proofs.Common.{Ok, ap, sym, ◌∙◌}
use Rattle.toml.specs.View.{view}
use Rattle.plan_reader.specs.{PlanTables.ticks_of, Plans.{plan_links, plan_nodes}}
use Rattle.plan_reader.proofs.SoundLinks.{is_topology}
use Rattle.plan_reader.proofs.reader.read_parts.Goals as goal

pub read_over-requires-clause-sound : goal.read_over-requires-clause-sound
read_over-requires-clause-sound c =
    let nodes = c.in_ok-nodes.nodes in
    let nodes_read = sym (ap plan_nodes c.elements.ensures) ∙ c.in_ok-nodes.ensures.nodes in
    let links_read =
    sym (ap (plan_links nodes) c.elements-2.ensures) ∙ c.in_ok-links.ensures.links
    ∙ ap (λ ls. Ok ls) (sym c.deref.ensures.value) in
    let d = view c.args.value.now in
    is_topology d (ticks_of d) nodes c.deref.result.now c.requires nodes_read links_read

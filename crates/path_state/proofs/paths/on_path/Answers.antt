use Rattle.std.proofs.Common.{◌≡◌, ◌∙◌, true, sym, subst}
use Rattle.std.specs.Prelude.{Some}
use Rattle.mesh_rules.specs.LocalNodes.{leads}
use Rattle.leg_labels.proofs.InFibres.{sender-fibre_in}
use Rattle.path_state.proofs.paths.on_path.Goals as goal

pub judge-requires-clause-link : goal.judge-requires-clause-link
judge-requires-clause-link c =
    let t = c.args.tables.now in
    let l = c.in-Some.link.now in
    let k = c.request.inside.arrival.link in
    let u = c.request.inside.arrival.from in
    let led : leads (Some l) u t.node.id ≡ true = subst (λ n. leads (Some l) u n.id ≡ true) c.node.ensures
    (sym c.leads.ensures ∙ c.if-leads.true) in
    sender-fibre_in t k l u c.requires.links (sym c.in-Some.ensures) led

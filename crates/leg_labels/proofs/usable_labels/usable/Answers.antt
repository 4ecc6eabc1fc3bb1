use Rattle.std.proofs.Common.{◌≡◌, ◌∙◌, ap, sym, subst}
use Rattle.std.specs.Prelude.{filter}
use Rattle.ason_base.specs.{declared.limits.TheConstants.MOST_LABELS, Labels.{has, meet, up_to}}
use Rattle.link_owner.specs.{Claims.shareable, Owners.{claims_of, labels_of_fibre}}
use Rattle.mesh_rules.specs.Legs.{usable}
use Rattle.leg_table.specs.States.{local_of}
use Rattle.leg_table.proofs.LegOrder.{legs-to}
use Rattle.leg_labels.proofs.{ClaimedLabels.unclaimed-usable, UsableLabels.shared-usable}
use Rattle.leg_labels.proofs.usable_labels.usable.Goals as goal

pub returns-in-Work : goal.returns-in-Work
returns-in-Work c =
    let t = c.args.tables.now in
    let o = c.args.owner.now in
    subst (λ r. c.unclaimed.result ≡ usable (local_of t) t.legs r c.args.risks.now c.args.f) (sym c.in-Work.is)
    (c.unclaimed.ensures
    ∙ unclaimed-usable (local_of t) t.legs c.args.risks.now o c.args.f (legs-to t.legs c.rises.ensures.rising) c.requires.node.labels.claims c.requires.node.fibres
    (c.requires.node.fibres.fibres c.args.f ∙ c.requires.comes_in))

pub returns-in-Back : goal.returns-in-Back
returns-in-Back c =
    let t = c.args.tables.now in
    let o = c.args.owner.now in
    let s = c.args.shares.now in
    let risks = c.args.risks.now in
    let f = c.args.f in
    let shared = c.shareable-labels.ensures in
    let within = subst (λ labels. labels ≡ filter (has labels) (up_to MOST_LABELS)) shared c.rises-in-Back.ensures in
    subst (λ r. c.meet.result ≡ usable (local_of t) t.legs r risks f) (sym c.in-Back.is)
    (c.meet.ensures
    ∙ ap (λ labels. meet labels c.fitting.result) shared
    ∙ ap (meet (shareable (labels_of_fibre f o.claims) (claims_of f o.claims))) c.fitting.ensures
    ∙ shared-usable (local_of t) t.legs risks o s f (legs-to t.legs c.rises.ensures.rising) c.requires.node.labels c.requires.node.fibres
    (c.requires.node.fibres.fibres f ∙ c.requires.comes_in) within)

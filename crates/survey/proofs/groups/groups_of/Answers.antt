use Rattle.std.proofs.Common.{◌≡◌, nat_lt, ap, ◌∙◌}
use Rattle.std.specs.Prelude.{flat_map}
use Rattle.ason_base.specs.{InOrder.in_order, declared.network.LinkSpec.LinkSpec}
use Rattle.survey.specs.Groups.{both_kinds}
use Rattle.survey.proofs.GroupLists.{of-both}
use Rattle.survey.proofs.groups.groups_of.Goals as goal

pub returns : goal.returns
returns c =
    let links = c.args.t.now.links in
    let srlgs = in_order nat_lt (flat_map (λ (l : LinkSpec). l.srlgs) links) in
    let listed = c.links-links.ensures.list in
    let numbered : c.items.result.now ≡ srlgs = c.items.ensures ∙ c.in_ok-numbers.ensures
    ∙ ap (λ ls. in_order nat_lt (flat_map (λ (l : LinkSpec). l.srlgs) ls)) listed in
    c.in_ok-groups.ensures ∙ ap (λ ls. both_kinds ls c.items.result.now) listed ∙ ap (both_kinds links) numbered
    ∙ of-both links links srlgs

use Rattle.std.proofs.{Common.{◌++◌, [], ◌∷◌, take, sym, ap, ◌∙◌}, lemmas.List.{flat_map_more, take_more}}
use Rattle.std.specs.Prelude.{flat_map}
use Rattle.survey.specs.Slots.{link_slots}
use Rattle.survey.proofs.slots.shared_slots.Goals as goal

pub loop-link-preserved : goal.loop-link-preserved
loop-link-preserved c =
    let slots = link_slots c.args.legs.now c.args.views.now in
    let links = c.args.links.now in
    let i = c.loop-link.link-index in
    c.in_ok-push_link.ensures ∙ ap (λ before. before ++ slots c.link-item.result) c.loop-link.invariant
    ∙ flat_map_more slots [] (take i links) c.link-item.result
    ∙ ap (flat_map slots) (ap (λ x. take i links ++ x ∷ []) c.link-item.is
    ∙ sym (take_more links i c.link-item.result c.loop-link-test.true))

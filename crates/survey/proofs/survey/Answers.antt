use Rattle.std.proofs.Common.{◌≡◌, true, List, map, ap, sym, ◌∙◌}
use Rattle.std.specs.Prelude.{filter, flat_map}
use Rattle.ason_base.specs.{Network.is_distinct, declared.network.LinkSpec.LinkSpec}
use Rattle.ason_base.proofs.Bools.{and-left}
use Rattle.mesh_rules.proofs.Topologies.{topology_searchable}
use Rattle.mesh_laws.specs.{declared.survey.Contend.Contend}
use Rattle.survey.specs.{Groups.{hit_in}, Meetings.{all_meet, is_met_at_all}, Slots.link_slots, Views.view_of}
use Rattle.survey.proofs.{ContendLists.contends-are, HitLists.hits-are}
use Rattle.survey.proofs.survey.Goals as goal

pub returns-clause-hits : goal.returns-clause-hits
returns-clause-hits c =
    let t = c.args.t.now in
    let calls = c.args.rows.now.calls in
    let legs = c.args.rows.now.legs in
    let once : is_distinct (map (λ (l : LinkSpec). l.id.0) t.links) ≡ true =
    and-left _ _ (topology_searchable t c.links-links.ensures.valid) in
    c.from_vec.ensures ∙ c.in_ok-hits.ensures
    ∙ ap (λ views. flat_map (hit_in views) c.deref.result.now) (c.deref-2.ensures.value ∙ c.in_ok-views.ensures)
    ∙ ap (flat_map (hit_in (map (view_of legs) calls))) (c.deref.ensures.value ∙ c.in_ok-groups.ensures)
    ∙ hits-are t calls legs once

pub returns-clause-contends : goal.returns-clause-contends
returns-clause-contends c =
    let t = c.args.t.now in
    let calls = c.args.rows.now.calls in
    let legs = c.args.rows.now.legs in
    let once : is_distinct (map (λ (l : LinkSpec). l.id.0) t.links) ≡ true =
    and-left _ _ (topology_searchable t c.links-links.ensures.valid) in
    let slots : c.deref-5.result.now ≡ flat_map (link_slots legs (map (view_of legs) calls)) t.links =
    c.deref-5.ensures.value ∙ c.in_ok-slots.ensures
    ∙ ap (λ rows. flat_map (link_slots rows c.deref-3.result.now) c.links-links.result.now) c.items.ensures
    ∙ ap (λ views. flat_map (link_slots legs views) c.links-links.result.now)
    (c.deref-3.ensures.value ∙ c.in_ok-views.ensures)
    ∙ ap (flat_map (link_slots legs (map (view_of legs) calls))) c.links-links.ensures.list in
    let shared = sym c.deref-5.ensures.value ∙ slots in
    let met = c.in_ok-met.ensures
    ∙ (λ i. filter (is_met_at_all (slots i)) ((c.deref-4.ensures.value ∙ c.in_ok-groups.ensures) i)) in
    ap (flat_map (λ (list : List Contend). list)) c.new.ensures ∙ (λ i. all_meet (shared i) (met i))
    ∙ contends-are t calls legs once

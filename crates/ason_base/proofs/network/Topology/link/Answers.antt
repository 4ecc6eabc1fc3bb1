use Rattle.std.proofs.{Common.{◌≡◌, ◌<◌, ◌∙◌, Ok, Err, Some, ap, get_or, length, rules, subst, sym}, lemmas.List.Sorted.answers_always}
use Rattle.std.specs.{List.Sorted.IsBinarySearchResult, Ordering.nat_cmp}
use Rattle.ason_base.proofs.{KeySearch.{find-found, find-none, found-key, no-key}, LinkOrder.link_numbers_rise}
use Rattle.ason_base.specs.declared.network.LinkSpec.{LinkSpec}
use Rattle.ason_base.proofs.network.Topology.link.Goals as goal

pub returns-in-Ok : goal.returns-in-Ok
returns-in-Ok c =
    let links = c.self.inside.links.items in
    let place = c.in-Ok.place in
    let within : place < length links = search rules in
    let found : IsBinarySearchResult (λ (l : LinkSpec). nat_cmp l.id.0 c.args.id.0) links (Ok place) =
    subst (λ ls. IsBinarySearchResult (λ (l : LinkSpec). nat_cmp l.id.0 c.args.id.0) ls (Ok place))
    c.deref.ensures.value
    (c.in-Ok.ensures.position (λ (l : LinkSpec). l.id.0) (answers_always _ _ _ (λ f a r g called. search rules))) in
    let at : c.index.result.now ≡ get_or links place c.index.result.now = search rules in
    rw (← c.self.view_is)
    (ap Some at
    ∙ sym (find-found (λ (l : LinkSpec). l.id.0) links c.args.id.0 place c.index.result.now
    (link_numbers_rise _ c.self.invariant) within
    (found-key (λ (l : LinkSpec). l.id.0) links c.args.id.0 place found c.index.result.now)))

pub returns-in-Err : goal.returns-in-Err
returns-in-Err c =
    let links = c.self.inside.links.items in
    let absent : IsBinarySearchResult (λ (l : LinkSpec). nat_cmp l.id.0 c.args.id.0) links (Err c.in-Err.field-0) =
    subst (λ ls. IsBinarySearchResult (λ (l : LinkSpec). nat_cmp l.id.0 c.args.id.0) ls (Err c.in-Err.field-0))
    c.deref.ensures.value
    (c.in-Err.ensures.position (λ (l : LinkSpec). l.id.0) (answers_always _ _ _ (λ f a r g called. search rules))) in
    rw (← c.self.view_is)
    (sym (find-none (λ (l : LinkSpec). l.id.0) links c.args.id.0
    (no-key (λ (l : LinkSpec). l.id.0) links c.args.id.0 c.in-Err.field-0
    (link_numbers_rise _ c.self.invariant) absent)))

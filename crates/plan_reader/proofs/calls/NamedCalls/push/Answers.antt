use Rattle.std.proofs.Common.{◌≡◌, ℕ, ◌<◌, ◌≤◌, ◌++◌, ◌∷◌, [], IsFalse, List, arith, ap, length, length-append, subst, sym, ◌∙◌}
use Rattle.plan_reader.specs.{Names.has_name, PlanCalls.{ArePlacesOfNames, CallList}}
use Rattle.ason_base.specs.declared.limits.TheConstants.{MOST_CALLS}
use Rattle.plan_reader.proofs.Places.{places_more}
use Rattle.plan_reader.proofs.calls.NamedCalls.push.Goals as goal

pub invariant_of-self-2 : goal.invariant_of-self-2
invariant_of-self-2 c =
    let old = c.self.inside in
    let names = old.names.items in
    let name = c.args.name in
    let view = sym c.self.view_is in
    let grown : c.push.new.self.items ≡ names ++ name ∷ [] =
    c.in-Ok-Ok.ensures.items ∙ ap (λ ns. ns ++ name ∷ []) c.in_ok-reserve.ensures.items in
    let few : length names < MOST_CALLS = subst (λ (l : CallList). length l.names < MOST_CALLS) view c.requires.few in
    let fresh : IsFalse (has_name names name) =
    subst (λ (l : CallList). IsFalse (has_name l.names name)) view c.requires.fresh in
    let count : c.count-place.result ≡ length names =
    c.count-place.ensures ∙ ap (λ (l : CallList). length l.names) view in
    let new = c.put.new.places in
    let puts = c.in_ok-put.ensures.ok in
    let after = rw count at puts in
    let places = places_more old.places new names name fresh c.self.invariant.1 after in
    let more = length-append names (name ∷ []) in
    let within : length (names ++ name ∷ []) ≤ MOST_CALLS = omega (arith, few, more) in (
      subst (λ (ns : List (List ℕ)). length ns ≤ MOST_CALLS) (sym grown) within,
      subst (λ (ns : List (List ℕ)). ArePlacesOfNames new ns) (sym grown) places,
    )

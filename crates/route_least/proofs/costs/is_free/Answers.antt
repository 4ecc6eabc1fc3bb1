use Rattle.std.proofs.Common.{get_or, sym, subst}
use Rattle.std.specs.List.{Contains}
use Rattle.ason_base.proofs.Bools.{not-from, not-holds}
use Rattle.route_least.proofs.PlaceLists.{node_at, node_is}
use Rattle.route_least.proofs.costs.is_free.Goals as goal

pub returns-then-not-closed-arc : goal.returns-then-not-closed-arc
returns-then-not-closed-arc c =
    let places = c.args.places.now in
    let head = c.args.arc.now.head in
    let d = c.index-places-arc.result in (
      (λ free. record {
        row = c.if-not-closed-arc.true;
        node = λ n h banned. not-holds c.is_banned.result free
            (c.is_banned.ensures.1 (subst (Contains c.args.banned.now) (sym (node_is places head d n h)) banned));
      }),
      (λ free. not-from c.is_banned.result (λ on. free.node (get_or places head d).node
          (node_at places head d c.requires.head) (c.is_banned.ensures.0 on))),
    )

use Rattle.std.proofs.{Common.{◌≡◌, length, sym, subst}, lemmas.Result.{IfErr-weaker, IfOk-weaker}}
use Rattle.std.specs.List.{Contains}
use Rattle.route_least.specs.{Answers.{IsLeastFound, IsRefusal}, Network.IsClosed}
use Rattle.route_least.proofs.RouteLaws.{least_certificate, least_potential, least_route, least_refusal, rows-are}
use Rattle.route_least.proofs.least.Goals as goal

pub least-requires : goal.least-requires
least-requires c = (
  c.args.rows.now,
  c.in_ok-network.ensures,
  (subst (λ xs. length xs ≡ length c.args.rows.now) (sym c.deref.ensures.value) c.in_ok-closed.ensures.len),
)

pub returns-clause-route : goal.returns-clause-route
returns-clause-route c =
    let rows = c.args.rows.now in
    let are = rows-are c.deref.ensures.value c.items.ensures c.in_ok-closed.ensures in
    IfOk-weaker c.least.result (IsLeastFound rows c.deref.result.now c.items-2.result.now c.args.from c.args.to) _
    (least_route rows c.args.banned.now.links c.deref.result.now c.items-2.result.now c.args.banned.now.nodes are
    c.items-2.ensures c.args.from c.args.to)
    (c.least.ensures.found rows c.in_ok-network.ensures)

pub returns-clause-potential : goal.returns-clause-potential
returns-clause-potential c =
    let rows = c.args.rows.now in
    let are = rows-are c.deref.ensures.value c.items.ensures c.in_ok-closed.ensures in
    IfOk-weaker c.least.result (IsLeastFound rows c.deref.result.now c.items-2.result.now c.args.from c.args.to) _
    (least_potential rows c.args.banned.now.links c.deref.result.now c.items-2.result.now c.args.banned.now.nodes are
    c.items-2.ensures c.args.from c.args.to)
    (c.least.ensures.found rows c.in_ok-network.ensures)

pub returns-clause-certificate : goal.returns-clause-certificate
returns-clause-certificate c =
    let rows = c.args.rows.now in
    let are = rows-are c.deref.ensures.value c.items.ensures c.in_ok-closed.ensures in
    IfOk-weaker c.least.result (IsLeastFound rows c.deref.result.now c.items-2.result.now c.args.from c.args.to) _
    (least_certificate rows c.args.banned.now.links c.deref.result.now c.items-2.result.now c.args.banned.now.nodes
    are c.items-2.ensures c.args.from c.args.to)
    (c.least.ensures.found rows c.in_ok-network.ensures)

pub returns-clause-none : goal.returns-clause-none
returns-clause-none c =
    let rows = c.args.rows.now in
    let are = rows-are c.deref.ensures.value c.items.ensures c.in_ok-closed.ensures in
    IfErr-weaker c.least.result (IsRefusal rows (IsClosed rows c.deref.result.now)
    (Contains c.items-2.result.now) c.args.from c.args.to) _
    (least_refusal rows c.args.banned.now.links c.deref.result.now c.items-2.result.now c.args.banned.now.nodes are
    c.items-2.ensures c.args.from c.args.to)
    (c.least.ensures.none rows c.in_ok-network.ensures)

use Rattle.std.proofs.{Common.{◌≡◌, sym, ap, ◌∙◌, subst, arith}, lemmas.List.with_items_is}
use Rattle.std.specs.{List.AllZip, Vec.with_items}
use Rattle.fleet.specs.{Connections.AreSettled, Rounds.Rounds, Standing.FleetState, Views.{MayPublish, Publishes, publishers_of}}
use Rattle.fleet.proofs.{Published.{all-published, published-settled, rounds-published, rounds-starved, some-published}, fleet.Fleet.round.Goals.{in-Err, in-Ok}}
use Rattle.fleet.proofs.fleet.Fleet.round.Goals as goal

pub invariant_of-self : goal.invariant_of-self
invariant_of-self g c =
    let seats = c.self.inside.seats.items in
    let lent = c.deref_mut.result.now in
    let new = c.publish_all-told.new.stations in
    subst (AreSettled seats) (sym (with_items_is c.self.inside.stations new (omega
    (arith, c.publish_all-told.auto.stations, c.deref_mut.ensures.len))))
    (published-settled seats lent new (subst (AreSettled seats) (sym c.deref_mut.ensures.value) c.self.invariant)
    c.publish_all-told.ensures.may)

pub returns-clause-rounds : goal.returns-clause-rounds
returns-clause-rounds g c =
    let old = c.args.self.now in
    let mid = c.make_round-made.new.self in
    let made = c.make_round-made.result in
    let lent = c.deref_mut.result.now in
    let new = c.publish_all-told.new.stations in
    let is =
    with_items_is c.self.inside.stations new (omega (arith, c.publish_all-told.auto.stations, c.deref_mut.ensures.len)) in
    elim c.match-told.branch [
      | in-Ok w ↦
          subst (Rounds c.args.workers old _) (sym w.result-is)
          (rounds-published c.args.workers old mid _ lent new _ made c.self.view_is c.deref_mut.ensures.value is
          c.publish_all-told.ensures.may c.make_round-made.ensures.rounds)
      | in-Err w ↦
          subst (Rounds c.args.workers old _) (sym w.result-is)
          (rounds-starved c.args.workers old mid _ lent new _ made c.self.view_is c.deref_mut.ensures.value is
          c.publish_all-told.ensures.may c.every_command.ensures.rounds c.every_command.ensures.cuts
          c.make_round-made.ensures.rounds)
    ]

pub returns-clause-publishes : goal.returns-clause-publishes
returns-clause-publishes g c =
    let old = c.args.self.now in
    let lent = c.deref_mut.result.now in
    let new = c.publish_all-told.new.stations in
    let is =
    with_items_is c.self.inside.stations new (omega (arith, c.publish_all-told.auto.stations, c.deref_mut.ensures.len)) in
    let now : FleetState = record {
      seats = c.self.inside.seats.items;
      stations = (with_items c.self.inside.stations new).items;
      posts = c.self.inside.posts.items;
      network = c.self.inside.network;
      failed = c.self.inside.failed.items;
    } in
    let same : publishers_of lent ≡ publishers_of old.stations =
    ap publishers_of c.deref_mut.ensures.value ∙ ap (λ (x : FleetState). publishers_of x.stations) c.self.view_is
    ∙ c.make_round-made.ensures.publishers in
    elim c.match-told.branch [
      | in-Ok w ↦
          subst (λ answer. Publishes answer old now) (sym w.result-is)
          (all-published c.make_round-made.result old now lent same (is ∙ w.in-Ok.ensures.ok))
      | in-Err w ↦
          subst (λ answer. Publishes answer old now) (sym w.result-is)
          (some-published old now lent same (subst (AllZip MayPublish lent) (sym is) c.publish_all-told.ensures.may))
    ]

use Rattle.std.proofs.Common.{map, sym, subst, []}
use Rattle.ason_base.specs.declared.network.NodeSpec.{NodeSpec}
use Rattle.world_core.specs.{Replays.{StateStandsFor, WorldState}, Seats.new_seat}
use Rattle.world_rules.specs.Worlds.{world_start}
use Rattle.world_core.proofs.Beginning.{new-world}
use Rattle.world_core.proofs.world.World.new.Goals as goal

pub returns : goal.returns
returns c =
    let t = c.args.t.now in
    let made : WorldState = record {
      seats = c.in_ok-seats.seats.items;
      posted = c.new.result.items;
      failed = c.new-2.result.items;
    } in
    let seated : WorldState = record made { seats = map (λ (m : NodeSpec). new_seat t m.id) t.nodes } in
    subst (λ seats. StateStandsFor t (record made { seats = seats }) (world_start t)) (sym c.in_ok-seats.ensures)
    (subst (λ posted. StateStandsFor t (record seated { posted = posted }) (world_start t)) (sym c.new.ensures.items)
    (subst (λ failed. StateStandsFor t (record seated { posted = []; failed = failed }) (world_start t))
    (sym c.new-2.ensures.items) (new-world t c.nodes-nodes.ensures.valid)))

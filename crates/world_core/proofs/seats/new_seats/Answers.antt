use Rattle.std.proofs.{Common.{◌++◌, ◌∷◌, ◌∙◌, [], ap, false, get_or, sym}, lemmas.List.map_more}
use Rattle.ason_base.specs.declared.network.NodeSpec.{NodeSpec}
use Rattle.world_core.specs.Seats.{new_seat}
use Rattle.world_core.proofs.Beginning.{node-found}
use Rattle.world_core.proofs.seats.new_seats.Goals as goal

pub push_seat-requires : goal.push_seat-requires
push_seat-requires c =
    node-found c.args.t.now c.nodes-m-items.result.now c.loop-m.m-index
    (record { id = record { 0 = 0 }; convert = false })
    c.nodes-m-items.ensures.list c.loop-m-test.true

pub loop-m-preserved : goal.loop-m-preserved
loop-m-preserved c =
    let nodes = c.nodes-m-items.result.now in
    let none : NodeSpec = record { id = record { 0 = 0 }; convert = false } in
    c.in_ok-push_seat.ensures
    ∙ ap (λ seats. seats ++ new_seat c.args.t.now (get_or nodes c.loop-m.m-index none).id ∷ []) c.loop-m.invariant
    ∙ sym (map_more (λ (m : NodeSpec). new_seat c.args.t.now m.id) nodes c.loop-m.m-index none c.loop-m-test.true)

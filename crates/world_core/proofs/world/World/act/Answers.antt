use Rattle.std.proofs.Common.{◌≡◌, sym, ◌∙◌, ap, refl, subst}
use Rattle.std.specs.Prelude.{Some, position}
use Rattle.world_core.specs.{Replays.{HasActed, WorldState}, Seats.is_able}
use Rattle.world_core.proofs.Acting.{able-few, has-acted}
use Rattle.ason_base.proofs.Results.{on_ok}
use Rattle.world_core.proofs.world.World.act.Goals as goal

pub act_at-requires-clause-few : goal.act_at-requires-clause-few
act_at-requires-clause-few c s there =
    let at : position (is_able c.args.node.0) c.self.inside.seats.items ≡ Some c.in-Some.place =
    ap (position (is_able c.args.node.0)) (sym c.deref.ensures.value) ∙ sym c.able_place.ensures ∙ c.in-Some.is in
    able-few c.args.node.0 c.self.inside.seats.items c.in-Some.place s at there

pub returns-in-Some-clause-done : goal.returns-in-Some-clause-done
returns-in-Some-clause-done c =
    let at : position (is_able c.args.node.0) c.self.inside.seats.items ≡ Some c.in-Some.place =
    ap (position (is_able c.args.node.0)) (sym c.deref.ensures.value) ∙ sym c.able_place.ensures ∙ c.in-Some.is in
    let before : WorldState = record {
      seats = c.self.inside.seats.items;
      posted = c.self.inside.posted.items;
      failed = c.self.inside.failed.items;
    } in
    let after : WorldState = record before { seats = c.act_at.new.seats.items } in
    on_ok c.act_at.result _ _
    (λ does. subst (λ k. HasActed k c.args.node c.args.act after) c.self.view_is
    (has-acted before after c.args.node c.args.act c.in-Some.place at refl refl does)) c.act_at.ensures.done

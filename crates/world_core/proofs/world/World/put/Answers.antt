use Rattle.std.proofs.Common.{◌≡◌, set, sym, ◌∙◌, ap, subst}
use Rattle.std.specs.Prelude.{Some, position}
use Rattle.ason_base.specs.declared.commands.DeskItem.TheVariants.{Order}
use Rattle.world_core.specs.{Replays.{IsPut, WorldState}, Seats.{is_seat_at, seat_with_item}}
use Rattle.world_core.proofs.Posting.{is-put}
use Rattle.world_core.proofs.world.World.put.Goals as goal

pub returns-in_ok-put_at-in-Some-clause-done : goal.returns-in_ok-put_at-in-Some-clause-done
returns-in_ok-put_at-in-Some-clause-done c =
    let seats = c.self.inside.seats.items in
    let at : position (is_seat_at c.args.node.0) seats ≡ Some c.in-Some.place =
    ap (position (is_seat_at c.args.node.0)) (sym c.deref.ensures.value) ∙ sym c.place_of.ensures ∙ c.in-Some.is in
    subst (λ (k : WorldState). IsPut k.seats c.args.node (Order c.args.command.now) c.put_at.new.seats.items)
    c.self.view_is
    (is-put seats c.put_at.new.seats.items c.args.node (Order c.args.command.now) c.in-Some.place at
    (λ s there. c.in_ok-put_at-in-Some.ensures s there
    ∙ ap (λ x. set seats c.in-Some.place (seat_with_item (Order x) s)) c.in_ok-copy-in-Some.ensures))

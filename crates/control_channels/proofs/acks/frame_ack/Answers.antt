use Rattle.std.proofs.{Common.{[], ◌∷◌, refl, arith}, lemmas.List.Elements.All-from_recursion}
use Rattle.rsvp_messages.specs.Writable.{IsShort}
use Rattle.control_channels.proofs.acks.frame_ack.Goals as goal

pub frame_one-requires : goal.frame_one-requires
frame_one-requires c = record {
  id = tt;
  acks = All-from_recursion IsShort (c.args.id ∷ []) (c.requires, tt);
  few = omega arith;
  body = (refl, omega arith);
}

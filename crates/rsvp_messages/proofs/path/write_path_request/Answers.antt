use Rattle.rsvp_objects.specs.Bodies.{request_bytes}
use Rattle.rsvp_messages.specs.Written.{bytes_of, made, protection_object, set_object}
use Rattle.rsvp_messages.proofs.Joining.{three}
use Rattle.rsvp_messages.proofs.path.write_path_request.Goals as goal

pub returns : goal.returns
returns c =
    three _ c.args.out.now.items _ _ _ (bytes_of (made 19 4 request_bytes))
    (bytes_of (protection_object c.args.role.now)) (bytes_of (set_object c.args.set.now))
    c.in_ok-write_request.ensures.ok c.in_ok-write_protection_of.ensures c.write_set.ensures

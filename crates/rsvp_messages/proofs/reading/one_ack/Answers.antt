use Rattle.std.proofs.Common.{subst}
use Rattle.rsvp_messages.specs.{Headers.HasHeader, Seen.seen}
use Rattle.rsvp_messages.proofs.Scanning.{alone_only}
use Rattle.rsvp_messages.proofs.reading.one_ack.Goals as goal

pub returns-clause-only : goal.returns-clause-only
returns-clause-only c =
    let lone = c.in_ok-object in
    alone_only c.args.bytes.now (seen lone.object) c.lone_ack.result
    (subst (HasHeader c.args.bytes.now) lone.ensures.kind c.requires) lone.ensures.found c.lone_ack.ensures.only

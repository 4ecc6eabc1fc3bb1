use Rattle.std.proofs.Common.{arith, rules}
use Rattle.rsvp_messages.proofs.Heads.{object_there}
use Rattle.rsvp_messages.proofs.raw.next_object.Goals as goal

pub returns-clause-found : goal.returns-clause-found
returns-clause-found c =
    let head = c.in_ok-len.ensures in
    let body = c.in_ok-body.ensures in
    object_there c.args.cursor.now c.next_head.new.cursor c.in_ok-body.body.now c.take.new.self c.from-len.result _ _
    (search rules) head.class head.ctype head.there head.left (omega (arith, c.if-len-lt4.false)) (search rules)
    (search rules) body.value.0 body.value.1 (search rules)

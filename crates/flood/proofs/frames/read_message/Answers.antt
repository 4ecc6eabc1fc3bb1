use Rattle.wire_buf.proofs.Codecs.{decodes_some}
use Rattle.flood.proofs.{Envelopes.same_error, FrameBodies.{message_is, message_once, no_message}}
use Rattle.flood.proofs.frames.read_message.Goals as goal

pub returns-in-Err : goal.returns-in-Err
returns-in-Err c = record {
  found = tt;
  only = λ x f. tt;
  not_message = λ is. no_message c.args.body.now (c.in-Err.ensures.not_message (same_error _ _ is));
}

pub returns-in-Ok : goal.returns-in-Ok
returns-in-Ok c =
    decodes_some _ (message_is c.args.body.now c.in-Ok.packet c.in-Ok.ensures.found)
    (message_once c.args.body.now c.in-Ok.packet c.in-Ok.ensures.only)

use Rattle.wire_buf.proofs.Codecs.{decodes_some}
use Rattle.flood.proofs.{Envelopes.same_error, FrameBodies.{flood_is, flood_once, no_flood}}
use Rattle.flood.proofs.frames.read_flood.Goals as goal

pub returns-in-Err : goal.returns-in-Err
returns-in-Err c = record {
  found = tt;
  only = λ x f. tt;
  not_message = λ is. no_flood c.args.body.now (c.in-Err.ensures.not_message (same_error _ _ is));
}

pub returns-in-Ok : goal.returns-in-Ok
returns-in-Ok c =
    decodes_some _ (flood_is c.args.body.now c.in-Ok.m c.in-Ok.ensures.found)
    (flood_once c.args.body.now c.in-Ok.m c.in-Ok.ensures.only)

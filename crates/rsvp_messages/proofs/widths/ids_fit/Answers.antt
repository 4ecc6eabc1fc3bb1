use Rattle.std.proofs.{Common.{All, List, subst}, lemmas.List.take_all, lemmas.List.Elements.All-more}
use Rattle.ason_base.specs.declared.messages.MsgId.{MsgId}
use Rattle.rsvp_messages.specs.Writable.{FitsId}
use Rattle.rsvp_messages.proofs.widths.ids_fit.Goals as goal

pub loop-id-preserved : goal.loop-id-preserved
loop-id-preserved c =
    All-more FitsId c.args.ids.now c.loop-id.id-index _ c.loop-id-test.true c.loop-id.invariant c.id_fits.ensures

pub returns : goal.returns
returns c =
    subst (λ (l : List MsgId). All FitsId l) (take_all _ c.args.ids.now c.loop-id-test.false) c.loop-id.invariant

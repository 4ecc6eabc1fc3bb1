use Rattle.std.proofs.{Common.{◌++◌, ap, sym, ◌∙◌}, lemmas.Result.on_ok_weaker}
use Rattle.mesh_rules.specs.{Alarms.notice_of, Changes.sends}
use Rattle.leg_table.specs.States.{local_of}
use Rattle.notify.proofs.Notices.{notices-more}
use Rattle.notify.proofs.alarms.tell_at.Goals as goal

pub returns : goal.returns
returns c =
    let p = local_of c.args.tables.now in
    let f = c.args.fibre in
    let code = c.args.code in
    let g = c.in-Some.leg.now in
    on_ok_weaker c.tell.result
    (λ told. told ∙ ap (λ change. sends (change.sent ++ notice_of p f code g)) c.requires.before
    ∙ sym (ap sends (notices-more p f code c.args.tables.now.legs c.args.place g (sym c.in-Some.ensures))))
    c.tell.ensures

use Rattle.std.proofs.{Common.{◌∙◌, ap, sym, take}, lemmas.List.take_all}
use Rattle.ason_base.specs.Labels.{without}
use Rattle.ason_base.proofs.Places.{take-item}
use Rattle.share_check.specs.Guards.{fitting, guards_of}
use Rattle.share_check.proofs.{Fitting.{fitting-fewer, fitting-none, fitting-same, guards-more}, shares.Shares.fitting.Goals.{then-bars, else-bars}}
use Rattle.share_check.proofs.shares.Shares.fitting.Goals as goal

pub loop-guards-init : goal.loop-guards-init
loop-guards-init c = c.upto-labels.ensures ∙ sym (fitting-none c.args.f c.args.r.now)

pub loop-guards-preserved : goal.loop-guards-preserved
loop-guards-preserved c =
    let f = c.args.f in
    let r = c.args.r.now in
    let ts = c.deref-guards-items.result.now in
    let i = c.loop-guards.guards-index in
    let t = c.guards-item.result in
    let before = take i ts in
    let more = take-item ts i t c.loop-guards-test.true c.guards-item.is in
    let s = guards_of before in
    elim c.if-bars.branch [
      | then-bars w ↦
          rw (
            more,
            guards-more before t,
            fitting-fewer f r s t (sym c.bars.ensures ∙ w.if-bars.true),
            w.labels-is,
            w.without-labels.ensures,
            w.label.ensures,
          )
          (ap (λ labels. without labels t.label) c.loop-guards.invariant)
      | else-bars w ↦
          rw (more, guards-more before t, fitting-same f r s t (sym c.bars.ensures ∙ w.if-bars.false), w.labels-is)
          c.loop-guards.invariant
    ]

pub returns : goal.returns
returns c =
    let f = c.args.f in
    let r = c.args.r.now in
    let all = take_all c.loop-guards.guards-index c.deref-guards-items.result.now c.loop-guards-test.false in
    c.loop-guards.invariant
    ∙ ap (λ ts. fitting (guards_of ts) f r) (all ∙ c.deref-guards-items.ensures.value)
    ∙ ap (λ s. fitting s f r) c.self.view_is

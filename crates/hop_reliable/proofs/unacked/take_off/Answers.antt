use Rattle.std.proofs.{Common.{◌<◌, not, refl, rules, subst, sym, take, ◌∙◌}, lemmas.List.Kept.AllPairs-filter}
use Rattle.hop_reliable.specs.{Hop.is_acked, Order.UnackedNumbersRise}
use Rattle.hop_reliable.proofs.{Aged.still_unacked-nil, Acknowledged.{number-goes, nothing-goes}, unacked.take_off.Goals.{then-ack-eq-EPOCH, else-ack-eq-EPOCH}}
use Rattle.hop_reliable.proofs.unacked.take_off.Goals as goal

pub loop-ack-init : goal.loop-ack-init
loop-ack-init c = (sym (still_unacked-nil c.args.unacked.now.items), search rules, refl)

pub take_off_number-requires : goal.take_off_number-requires
take_off_number-requires c =
    subst UnackedNumbersRise (sym c.loop-ack.invariant.0)
    (AllPairs-filter (λ v w. v.number < w.number) (λ w. not (is_acked (take c.loop-ack.ack-index c.args.acks.now) w))
    c.args.unacked.now.items c.requires)

pub loop-ack-preserved : goal.loop-ack-preserved
loop-ack-preserved c = elim c.if-ack-eq-EPOCH.branch [
  | then-ack-eq-EPOCH w ↦ rw w.unacked-is (
    w.take_off_number.ensures.left
        ∙ number-goes c.args.acks.now c.loop-ack.ack-index _ c.args.unacked.now.items c.loop-ack.unacked.items
        c.loop-ack-test.true w.if-ack-eq-EPOCH.true c.loop-ack.invariant.0,
    search rules,
    search rules,
  )
  | else-ack-eq-EPOCH w ↦ rw w.unacked-is (
    nothing-goes c.args.acks.now c.loop-ack.ack-index _ c.args.unacked.now.items _
        c.loop-ack-test.true w.if-ack-eq-EPOCH.false c.loop-ack.invariant.0,
    c.loop-ack.invariant.1,
    c.loop-ack.invariant.2,
  )
]

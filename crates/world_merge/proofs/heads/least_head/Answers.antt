use Rattle.std.proofs.Common.{◌-◌, refl}
use Rattle.world_merge.specs.declared.heads.Head.{Head}
use Rattle.world_merge.proofs.Choosing.{empty-passed, head-compared, nothing-behind}
use Rattle.world_merge.proofs.heads.least_head.Goals as goal

pub loop-place-init : goal.loop-place-init
loop-place-init c = nothing-behind c.args.lists.now

pub loop-place-preserved-in-Some : goal.loop-place-preserved-in-Some
loop-place-preserved-in-Some c =
    let h : Head = record {
      place = c.loop-place.place - 1;
      entry = c.in-Some.entry;
      left = c.in-Some.left;
    } in
    head-compared c.loop-place.place c.args.lists.now c.index-lists-place.result c.loop-place.least h
    c.least_of.result c.loop-place-test.true c.loop-place.auto.place c.index-lists-place.is
    c.in-Some.ensures.cases.0 refl c.least_of.ensures c.loop-place.invariant

pub loop-place-preserved : goal.loop-place-preserved
loop-place-preserved c =
    empty-passed c.loop-place.place c.args.lists.now c.index-lists-place.result c.loop-place.least
    c.loop-place-test.true c.loop-place.auto.place c.index-lists-place.is
    c.in_default.ensures.cases c.loop-place.invariant

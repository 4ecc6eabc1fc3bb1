use Rattle.std.proofs.Common.{◌+◌, ◌∙◌, sym, subst, take, take_all}
use Rattle.route_least.specs.{declared.order.NodePlace.NodePlace, Potentials.AreListed}
use Rattle.route_least.proofs.{Listing.{all_below, listed_push, listed_skip, none_listed}, potentials.potentials_of.Goals.{in-Some+in_ok-push, in_default}}
use Rattle.route_least.proofs.potentials.potentials_of.Goals as goal

abbrev no_place : NodePlace
no_place = record { node = record { 0 = 0 }; place = 0 }

pub loop-entry-init : goal.loop-entry-init
loop-entry-init c = none_listed c.args.costs.now _ c.in_ok-potentials.ensures

pub push-requires : goal.push-requires
push-requires c = all_below c.args.order.now c.args.costs.now c.loop-entry.entry-index no_place
    c.loop-entry.potentials c.loop-entry-test.true c.loop-entry.invariant c.requires.rising

pub loop-entry-preserved : goal.loop-entry-preserved
loop-entry-preserved c =
    let order = c.args.order.now in
    let costs = c.args.costs.now in
    let i = c.loop-entry.entry-index in
    elim c.match-costs-entry.branch [
      | in-Some+in_ok-push w ↦
          subst (AreListed (take (i + 1) order) costs) (sym (w.potentials-is ∙ w.in_ok-push.ensures.ok))
          (listed_push order costs i no_place c.loop-entry.potentials c.loop-entry-test.true c.loop-entry.invariant
          w.in-Some.cost c.requires.rising w.in-Some.is)
      | in_default w ↦
          subst (AreListed (take (i + 1) order) costs) (sym w.potentials-is)
          (listed_skip order costs i no_place c.loop-entry.potentials c.loop-entry-test.true c.loop-entry.invariant
          w.in_default.not-Some)
    ]

pub returns : goal.returns
returns c = subst (λ done. AreListed done c.args.costs.now c.loop-entry.potentials)
    (take_all c.loop-entry.entry-index c.args.order.now c.loop-entry-test.false) c.loop-entry.invariant

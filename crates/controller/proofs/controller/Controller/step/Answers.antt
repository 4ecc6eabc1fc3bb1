use Rattle.std.proofs.Common.{◌∙◌, ◌<◌, ◌+◌, sym, ap, subst}
use Rattle.ason_base.specs.declared.limits.TheConstants.{MOST_EVENTS}
use Rattle.control_channels.specs.{Controllers.ControllerState, ReadyControllers.{IsKeptAfter, IsReady}}
use Rattle.control_channels.proofs.{Keeping.is-ready, Loops.whole}
use Rattle.controller.proofs.controller.Controller.step.Goals as goal

pub react-requires-clause-ready : goal.react-requires-clause-ready
react-requires-clause-ready c =
    let few : c.self.inside.steps < MOST_EVENTS =
    subst (λ n. n < MOST_EVENTS) (sym (ap (λ (s : ControllerState). s.steps) c.self.view_is)) c.requires.few in
    subst (λ xs. IsReady c.self.inside.node.place xs) (sym c.deref_mut.ensures.value)
    (is-ready c.self.inside.node.place c.self.inside.adjacencies.items c.self.inside.steps c.self.invariant.0 few)

pub invariant_of-self-2 : goal.invariant_of-self-2
invariant_of-self-2 c =
    let kept : IsKeptAfter c.self.inside.node.place c.deref_mut.result.now c.self.inside.steps =
    subst (λ xs. IsKeptAfter c.self.inside.node.place xs c.self.inside.steps)
    (sym c.deref_mut.ensures.value) c.self.invariant.0 in (
      subst (λ xs. IsKeptAfter c.react.new.node.place xs (c.self.inside.steps + 1))
          (whole c.react.new.adjacencies c.self.inside.adjacencies.items c.self.inside.adjacencies.len
          (c.react.auto.adjacencies ∙ c.deref_mut.ensures.len)) (c.in_ok-frames.ensures.kept c.self.inside.steps kept),
      c.in_ok-frames.ensures.fits,
    )

pub react-requires-clause-fits : goal.react-requires-clause-fits
react-requires-clause-fits c = c.self.invariant.1

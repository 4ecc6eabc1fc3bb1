use Rattle.std.proofs.{Common.{◌≡◌, sym, subst}, lemmas.Result.IfErr-weaker}
use Rattle.std.specs.Prelude.{OnOk, Result}
use Rattle.ason_base.specs.{declared.commands.Event.Event, Network.Network}
use Rattle.world_core.specs.Replays.{HasStepped, IsDisabled, WorldState}
use Rattle.ason_base.proofs.Results.{on_ok}
use Rattle.world_core.proofs.world.World.step.Goals as goal

-- what the event did whose kind is known
stepped : {T E : Type 0} (t : Network) (old new : WorldState) (e kind : Event) (r : Result T E) → e ≡ kind →
    OnOk r ((u : Network) → HasStepped u old kind new) → OnOk r (HasStepped t old e new)
stepped t old new e kind r is = on_ok r _ _ (λ does. subst (λ k. HasStepped t old k new) (sym is) (does t))

pub returns-in-Noise-clause-done : goal.returns-in-Noise-clause-done
returns-in-Noise-clause-done c = stepped _ _ _ _ _ c.make_noise.result c.in-Noise.is c.make_noise.ensures.done

pub returns-in-Noise-clause-refused : goal.returns-in-Noise-clause-refused
returns-in-Noise-clause-refused c =
    IfErr-weaker c.make_noise.result _ _
    (λ f disabled e. subst (IsDisabled c.args.t.now c.args.self.now) (sym c.in-Noise.is) (disabled e c.args.t.now))
    c.make_noise.ensures.refused

pub returns-in-Tick-clause-done : goal.returns-in-Tick-clause-done
returns-in-Tick-clause-done c = stepped _ _ _ _ _ c.tick.result c.in-Tick.is c.tick.ensures.done

pub returns-in-Desk-clause-done : goal.returns-in-Desk-clause-done
returns-in-Desk-clause-done c = stepped _ _ _ _ _ c.handle.result c.in-Desk.is c.handle.ensures.done

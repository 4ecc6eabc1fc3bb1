-- What a line of noise does.
use Rattle.std.proofs.Common.{◌≡◌, ◌∙◌, ℕ, Bool, true, false, cond, List, [], ◌∷◌, length, sym, ap, subst}
use Rattle.std.specs.Prelude.{◌==◌, None, Some, is_some}
use Rattle.ason_base.specs.{declared.limits.TheConstants.MOST_EVENTS, declared.ids.NodeId.NodeId, Network.Network}
use Rattle.round_rules.specs.{Records.log_at, Commands.noised}
use Rattle.fleet.specs.{Commands.{Noises, is_log_full}, FleetLaws.FullIsTheLogs, Standing.FleetState}
use Rattle.plan_reader.specs.{declared.lines.Line.TheVariants.Noise, Plans.IsPostable}
use Rattle.script_rules.specs.Stages.{Stage, with_noise, world_at}
use Rattle.ason_main.specs.Running.{AreLed, Does, StandsAtStage}
use Rattle.ason_main.proofs.Rounding.{led_one}

-- the stage by whether the log is full
abbrev after : NodeId → NodeId → List ℕ → Stage → Bool → Stage
after u d bytes s full =
    cond full (record s { stopped = Some d }) (record s { made = noised u d bytes s.made })

-- whether the log is full in the stage for which the stations stand
full_there : FullIsTheLogs → (t : Network) (u d : NodeId) (bytes : List ℕ) (f : FleetState) (s : Stage) (full : Bool) →
    StandsAtStage t f s → IsPostable t (world_at t s).posted (Noise u d bytes) → full ≡ is_log_full d f →
    (length (log_at s.made d.0) == MOST_EVENTS) ≡ full
full_there law t u d bytes f s full at can is = sym (is ∙ law t s.lines f s.made u d at.stands can.0)

makes : (t : Network) (u d : NodeId) (bytes : List ℕ) (s : Stage) (full : Bool) → s.stopped ≡ None →
    (length (log_at s.made d.0) == MOST_EVENTS) ≡ full →
    after u d bytes s full ∷ [] ≡ cond (is_some s.stopped) [] (with_noise u d bytes s ∷ [])
makes t u d bytes s full going is =
    ap (λ b. after u d bytes s b ∷ []) (sym is)
    ∙ sym (ap (λ o. cond (is_some o) [] (with_noise u d bytes s ∷ [])) going)

-- it is a line more of the node
pub noise_does : FullIsTheLogs → (t : Network) (workers : ℕ) (u d : NodeId) (bytes : List ℕ) (old new : FleetState) →
    false ≡ is_log_full d old → Noises u d bytes old new → Does t workers (Noise u d bytes) old new None
noise_does law t workers u d bytes old new room noises s at can =
    let a = after u d bytes s false in
    record {
      more = a ∷ [];
      makes = makes t u d bytes s false at.going (full_there law t u d bytes old s false at can room);
      led = subst (λ o. AreLed t new o s (a ∷ [])) at.going
          (led_one t new s a (noises t s.lines s.made at.stands));
    }

-- where the log is full the run ends
pub noise_stops : FullIsTheLogs → (t : Network) (workers : ℕ) (u d : NodeId) (bytes : List ℕ) (f : FleetState) →
    true ≡ is_log_full d f → Does t workers (Noise u d bytes) f f (Some d)
noise_stops law t workers u d bytes f full s at can =
    let a = after u d bytes s true in
    record {
      more = a ∷ [];
      makes = makes t u d bytes s true at.going (full_there law t u d bytes f s true at can full);
      led = led_one t f s a at.stands;
    }

-- Runs of a world, one after the other, and the events of the mesh that they give.
use Rattle.std.proofs.Common.{◌≡◌, List, [], ◌∷◌, ◌++◌, refl, sym, ap, ◌∙◌, subst, append_assoc}
use Rattle.ason_base.specs.{declared.commands.Event.Event, Network.Network}
use Rattle.world_rules.specs.{Images.{given_by, mesh_events}, WorldRuns.{IsWorldRun, world_after, world_step}, Worlds.{World, world_start}}
use Rattle.round_laws.specs.WholeRounds.{LeadsTo}

after_both : (t : Network) (w : World) (es fs : List Event) →
    world_after t w (es ++ fs) ≡ world_after t (world_after t w es) fs
after_both t w [] fs = refl
after_both t w (e ∷ es) fs = after_both t (world_step t w e) es fs

-- events that lead on, and others from there
pub then-leads : (t : Network) (w v x : World) (es fs : List Event) → world_after t w es ≡ v → world_after t v fs ≡ x →
    world_after t w (es ++ fs) ≡ x
then-leads t w v x es fs one two = after_both t w es fs ∙ ap (λ y. world_after t y fs) one ∙ two

run_both : (t : Network) (w : World) (es fs : List Event) → IsWorldRun t w es → IsWorldRun t (world_after t w es) fs →
    IsWorldRun t w (es ++ fs)
run_both t w [] fs one two = two
run_both t w (e ∷ es) fs one two = (one.0, run_both t (world_step t w e) es fs one.1 two)

-- a run, and one from where it leads
pub run-then : (t : Network) (w v : World) (es fs : List Event) → IsWorldRun t w es → world_after t w es ≡ v →
    IsWorldRun t v fs →
    IsWorldRun t w (es ++ fs)
run-then t w v es fs one to two = run_both t w es fs one (subst (λ x. IsWorldRun t x fs) (sym to) two)

-- what both give
pub given_both : (t : Network) (w : World) (es fs : List Event) →
    mesh_events t w (es ++ fs) ≡ mesh_events t w es ++ mesh_events t (world_after t w es) fs
given_both t w [] fs = refl
given_both t w (e ∷ es) fs =
    ap (λ xs. given_by w e ++ xs) (given_both t (world_step t w e) es fs)
    ∙ sym (append_assoc (given_by w e) (mesh_events t (world_step t w e) es)
    (mesh_events t (world_after t (world_step t w e) es) fs))

-- from where these lead, others lead on
pub leads_on : (t : Network) (es fs : List Event) (w v : World) → LeadsTo t es w → IsWorldRun t w fs →
    world_after t w fs ≡ v →
    LeadsTo t (es ++ fs) v
leads_on t es fs w v leads run to = record {
  run = run-then t (world_start t) w es fs leads.run leads.leads run;
  leads = then-leads t (world_start t) w v es fs leads.leads to;
}

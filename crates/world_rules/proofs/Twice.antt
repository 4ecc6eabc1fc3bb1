-- Why the image asks that each link be found by its number: two links have one number, and a node learns of the second.
use Rattle.std.proofs.Common.{◌≡◌, ℕ, true, List, [], ◌∷◌, refl, sym, ap, ◌∙◌}
use Rattle.ason_base.specs.{declared.network.LinkSpec.LinkSpec, declared.network.TeRow.TeRow, declared.commands.Event.Event, Network.{Network, row_of}}
use Rattle.ason_base.specs.declared.commands.Event.TheVariants as world
use Rattle.mesh_rules.specs.Events as mesh_runs
use Rattle.mesh_rules.specs.Machine.{Mesh}
use Rattle.mesh_rules.specs.Machine as mesh
use Rattle.world_rules.specs.{Images.{image, mesh_events}, WorldLaws.IsShown, WorldRuns.{IsWorldRun, world_after}, Worlds.world_start}
use Rattle.world_rules.proofs.ExampleNodes.{a, b, c}

-- links with number 1 between b and c
between : ℕ → LinkSpec
between metric = record { id = record { 0 = 1 }; low = b; high = c; labels = 1; metric = metric; srlgs = [] }

network : Network
network = record {
  wait = 0;
  nodes = record { id = a; convert = true } ∷ record { id = b; convert = true } ∷ record { id = c; convert = true }
      ∷ [];
  links = between 1 ∷ between 2
      ∷ record { id = record { 0 = 2 }; low = a; high = b; labels = 1; metric = 1; srlgs = [] } ∷ [];
}

-- the row of the second link comes to a, before that of the first
events : List Event
events = world.Tick b ∷ world.Deliver a b 2 ∷ []

is_run : IsWorldRun network (world_start network) events
unfolding network events between a b c
is_run = (refl, (refl, tt))

-- what a learnt in a mesh
learnt : Mesh → List TeRow
learnt s = (s.nodes 1).learnt

in_the_world : learnt (image (world_after network (world_start network) events)) ≡ row_of (between 2) ∷ []
unfolding network events between a b c learnt
in_the_world = refl

in_the_mesh : learnt (mesh_runs.after network mesh.start (mesh_events network (world_start network) events))
    ≡ row_of (between 1) ∷ []
unfolding network events between a b c learnt
in_the_mesh = refl

metrics : List TeRow → ℕ
metrics [] = 0
metrics (r ∷ rows) = r.metric

not-shown : IsShown network events → ⊥
unfolding between metrics
not-shown s =
    let same : 1 ≡ 2 = ap metrics (sym in_the_mesh ∙ ap learnt s.leads ∙ in_the_world) in absurd (cc (same))

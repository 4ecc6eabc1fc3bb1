-- A run after which a two-way call whose working LSP is hit is carried by its backup, and nothing is under way.
use Rattle.std.proofs.Common.{List, [], ◌∷◌, refl, ◌++◌}
use Rattle.ason_base.specs.Labels as labels
use Rattle.ason_base.specs.declared.commands.Group.TheVariants.{Link}
use Rattle.mesh_rules.specs.declared.events.MeshEvent.{MeshEvent}
use Rattle.mesh_examples.proofs.{BothWays.{network, turned}, Ends.{Restores, restores}, Scene.{desk, link}}

-- the ingress handles its Alarm too
abbrev events : List MeshEvent
events = turned ++ desk 1 ∷ []

restored : Restores network events (Link (link 3)) 1
unfolding labels.numbers_from
restored = restores network events (Link (link 3)) 1 (assumption (tt, refl)) refl

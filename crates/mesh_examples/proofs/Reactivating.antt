-- A run after which a backup is activated again behind the Path that takes its activation back.
use Rattle.std.proofs.Common.{List, [], ◌∷◌, ◌++◌, refl}
use Rattle.std.specs.Prelude.{Some}
use Rattle.ason_base.specs.Labels as labels
use Rattle.ason_base.specs.{declared.calls.Phase.TheVariants.Live, declared.calls.Role.TheVariants.Back}
use Rattle.mesh_rules.specs.declared.events.MeshEvent.{MeshEvent}
use Rattle.lsp_laws.specs.HopShapes as row
use Rattle.mesh_examples.proofs.Activated as activated
use Rattle.mesh_examples.proofs.{Activating.network, Scene.{changed_at, desk, down_at, fails_link, leg, lsp, mail_on, node, ReachesRow, Seen, takes_from}}
use Rattle.mesh_examples.proofs.Deactivating as deactivating

abbrev pub events : List MeshEvent
events = deactivating.events ++ fails_link 3 ∷ desk 1 ∷ desk 6 ∷ takes_from 1 6 ∷ []

-- as when it was activated first, but node 5 too is Live
abbrev pub as_reached : Seen
as_reached = record activated.as_reached {
  legs = changed_at 5 (leg 1 2 Live (Some 1) (Some 1) 3 3 0 ∷ []) activated.as_reached.legs;
  down = down_at 6 ((1, 1) ∷ (6, 1) ∷ []);
  mail = mail_on 7 ((2, (2, 0)) ∷ []);
}

reaches : ReachesRow network events as_reached Back (lsp 1 1 2) (node 1) (node 5)
unfolding labels.numbers_from
reaches = record { enabled = refl; reached = refl; in_row = row.Reactivating }

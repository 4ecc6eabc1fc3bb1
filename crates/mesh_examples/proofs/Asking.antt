-- A run after which a backup is asked for.
use Rattle.std.proofs.Common.{ℕ, List, [], ◌∷◌, ◌++◌, refl}
use Rattle.std.specs.Prelude.{Some, None}
use Rattle.ason_base.specs.Labels as labels
use Rattle.ason_base.specs.{declared.calls.CallState.TheVariants.Pairing, declared.calls.Cause.TheVariants.Unset, declared.calls.Phase.TheVariants.{Asked, Closing, Live}, declared.calls.Role.TheVariants.Back}
use Rattle.mesh_rules.specs.declared.events.MeshEvent.{MeshEvent}
use Rattle.lsp_laws.specs.HopShapes as row
use Rattle.mesh_examples.proofs.Answered as answered
use Rattle.mesh_examples.proofs.{Answered.network, Scene.{only_at, only_among, seen_unreported, changed_at, leg, lsp, mail_on, node, ReachesRow, Seen, takes_from}}

abbrev pub events : List MeshEvent
events = answered.events ++ takes_from 4 5 ∷ []

abbrev pub as_reached : Seen
as_reached = record answered.as_reached {
  legs = changed_at 4 (leg 4 1 Live None (Some 1) 0 1 0 ∷ leg 4 2 Asked None None 0 1 3 ∷ []) answered.as_reached.legs;
  calls = only_at 6 4 (seen_unreported 1 Pairing Unset ∷ []);
  mail = mail_on 7 ((5, (0, 1)) ∷ []);
}

-- what is seen after a release at node 4, with these messages on the links
abbrev pub released : Seen → List (ℕ × (ℕ × ℕ)) → Seen
released before on_links = record before {
  legs = changed_at 4 (leg 4 1 Closing None (Some 1) 0 1 0 ∷ leg 4 2 Closing None None 0 1 3 ∷ []) before.legs;
  calls = only_among 6 [];
  mail = mail_on 7 on_links;
}

reaches : ReachesRow network events as_reached Back (lsp 4 1 2) (node 4) (node 3)
unfolding labels.numbers_from
reaches = record { enabled = refl; reached = refl; in_row = row.Asking }

-- A run after which the downstream node has answered a working LSP.
use Rattle.std.proofs.Common.{true, false, List, [], ◌∷◌, refl}
use Rattle.std.specs.Prelude.{Some, None}
use Rattle.ason_base.specs.Labels as labels
use Rattle.ason_base.specs.{Network.Network, declared.calls.CallState.TheVariants.Asking, declared.calls.Cause.TheVariants.Unset, declared.calls.Phase.TheVariants.{Asked, Live}, declared.calls.Role.TheVariants.Work}
use Rattle.mesh_rules.specs.declared.events.MeshEvent.{MeshEvent}
use Rattle.lsp_laws.specs.HopShapes as row
use Rattle.mesh_examples.proofs.Scene.{only_at, only_among, seen_unreported, desk, link_spec, leg, lsp, mail_on, node, step_over, ReachesRow, Seen, sets_up, spec, still, takes_from}

abbrev pub network : Network
network = record {
  wait = 2;
  nodes = spec 1 true ∷ spec 2 true ∷ spec 3 false ∷ spec 4 true ∷ spec 5 false ∷ spec 6 false ∷ [];
  links = link_spec 1 1 2 1 [] ∷ link_spec 2 1 3 3 (1 ∷ []) ∷ link_spec 3 1 5 2 (1 ∷ []) ∷ link_spec 4 2 3 2 [] ∷
      link_spec 5 3 4 1 []
      ∷ link_spec 6 3 5 2 [] ∷ link_spec 7 4 5 1 [] ∷ [];
}

abbrev pub events : List MeshEvent
events =
    sets_up 1 4 5 (step_over 4 7 ∷ []) (step_over 4 5 ∷ step_over 3 4 ∷ step_over 2 1 ∷ step_over 1 3 ∷ [])
    ∷ desk 4
    ∷ takes_from 5 4
    ∷ []

abbrev pub as_reached : Seen
as_reached = record (still 6 7) {
  legs = only_among 6 (
      (4, leg 4 1 Asked None None 0 1 0 ∷ [])
      ∷ (5, leg 4 1 Live (Some 1) None 1 0 0 ∷ [])
      ∷ []);
  calls = only_at 6 4 (seen_unreported 1 Asking Unset ∷ []);
  known = 3 ∷ 2 ∷ 4 ∷ 2 ∷ 3 ∷ 0 ∷ [];
  mail = mail_on 7 ((7, (0, 1)) ∷ []);
}

reaches : ReachesRow network events as_reached Work (lsp 4 1 1) (node 4) (node 5)
unfolding labels.numbers_from
reaches = record { enabled = refl; reached = refl; in_row = row.Answered }

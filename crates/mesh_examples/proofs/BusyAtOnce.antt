-- A run after which a call is stuck as soon as its working route is hit. Two calls from node 1 to node 2 have their
-- working LSPs over links 1 and 2, and share the one label of link 3 for their backups. Link 1 fails, and the first
-- backup is activated. Node 1 sends the label for it, so when link 2 fails too the second call is stuck without sending
-- anything.
use Rattle.std.proofs.Common.{false, List, [], ◌∷◌, ◌++◌, refl}
use Rattle.std.specs.Prelude.{Some, None}
use Rattle.ason_base.specs.{Codes.busy_code, Network.Network, declared.calls.CallState.TheVariants.{Stuck, Turning}, declared.calls.Cause.TheVariants.{Code, Unset}, declared.calls.Phase.TheVariants.{Armed, Held, Live}}
use Rattle.ason_base.specs.Labels as labels
use Rattle.mesh_rules.specs.declared.events.MeshEvent.{MeshEvent}
use Rattle.mesh_examples.proofs.Scene.{desk, down_at, fails_link, link_spec, leg, mail_on, step_over, Reaches, seen_reported, Seen, sets_up, spec, still, takes_from, takes_each}

abbrev network : Network
network = record {
  wait = 0;
  nodes = spec 1 false ∷ spec 2 false ∷ [];
  links = link_spec 1 1 2 1 [] ∷ link_spec 2 1 2 1 [] ∷ link_spec 3 1 2 1 [] ∷ [];
}

-- node 2 tells node 1 of each link that fails
abbrev events : List MeshEvent
events =
    sets_up 1 1 2 (step_over 1 1 ∷ []) (step_over 1 3 ∷ [])
    ∷ desk 1
    ∷ takes_each ((2, 1) ∷ (1, 2) ∷ (2, 1) ∷ (1, 2) ∷ [])
    ++ sets_up 2 1 2 (step_over 1 2 ∷ []) (step_over 1 3 ∷ [])
    ∷ desk 1
    ∷ takes_each ((2, 1) ∷ (1, 2) ∷ (2, 1) ∷ (1, 2) ∷ [])
    ++ fails_link 1
    ∷ desk 2
    ∷ takes_from 1 2
    ∷ fails_link 2
    ∷ desk 2
    ∷ takes_from 1 2
    ∷ []

-- the Path that activates the first backup is the only message from node 1 to node 2, whichever link it is over
abbrev as_reached : Seen
as_reached = record (still 2 3) {
  legs =
      (leg 1 1 Live None (Some 1) 0 1 0
      ∷ leg 1 2 Armed None (Some 1) 0 1 0
      ∷ leg 1 3 Live None (Some 1) 0 1 0
      ∷ leg 1 4 Held None (Some 1) 0 1 0 ∷ [])
      ∷ (leg 1 1 Live (Some 1) None 1 0 0
      ∷ leg 1 2 Held (Some 1) None 1 0 0
      ∷ leg 1 3 Live (Some 1) None 1 0 0
      ∷ leg 1 4 Held (Some 1) None 1 0 0 ∷ [])
      ∷ [];
  calls = (seen_reported 1 Turning Unset 1 0 ∷ seen_reported 2 Stuck (Code busy_code) 1 0 ∷ []) ∷ [] ∷ [];
  known = 3 ∷ 3 ∷ [];
  down = down_at 2 ((2, 2) ∷ []);
  mail = mail_on 3 ((1, (1, 0)) ∷ (2, (1, 0)) ∷ (3, (1, 0)) ∷ []);
}

reaches : Reaches network events as_reached
unfolding labels.numbers_from
reaches = record { enabled = refl; reached = refl }

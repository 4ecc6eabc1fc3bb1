-- A protected two-way call: its working LSP and its backup have labels for the way back, each label that a node
-- takes being the one that the next node sends. When its working LSP is hit the call turns, and its backup is
-- connected both ways.
use Rattle.std.proofs.Common.{◌≡◌, true, List, [], ◌∷◌, ◌++◌, map, refl}
use Rattle.std.specs.Prelude.{Some, None}
use Rattle.ason_base.specs.Labels as labels
use Rattle.ason_base.specs.{Network.Network, declared.calls.CallState.CallState, declared.calls.CallState.TheVariants.{Guarded, Turned}, declared.calls.LegRow.LegRow, declared.calls.Phase.Phase, declared.calls.Phase.TheVariants.{Held, Live}, declared.calls.Role.TheVariants.{Back, Work}}
use Rattle.mesh_rules.specs.{declared.events.MeshEvent.MeshEvent, Events.after, Machine.start, Rows.{all_call_rows, all_leg_rows}}
use Rattle.mesh_examples.proofs.Scene.{all_enabled, desk, fails_link, learns_links, link, lsp, step_over, ring, row_of_leg, sets_up_both, takes_from, takes_each}

abbrev pub network : Network
network = ring 2

-- its working LSP is connected, and then its backup is reserved
abbrev set_up : List MeshEvent
set_up =
    learns_links 1 (2 ∷ [])
    ++ learns_links 2 (3 ∷ [])
    ++ sets_up_both 1 1 3 true (step_over 1 3 ∷ []) (Some (step_over 1 1 ∷ step_over 2 2 ∷ []))
    ∷ desk 1
    ∷ takes_each ((3, 1) ∷ (1, 3) ∷ (2, 1) ∷ (3, 2) ∷ (2, 3) ∷ (1, 2) ∷ [])

-- the working LSP's link fails; the egress tells of its fibre, and the backup is activated
abbrev pub turned : List MeshEvent
turned =
    set_up ++ fails_link 3 ∷ desk 3 ∷ takes_from 1 3 ∷ takes_from 2 1 ∷ takes_from 3 2 ∷ takes_from 2 3 ∷ takes_from 1
    2 ∷ []

-- the legs, while those of the backup are in this phase
abbrev rows : Phase → List LegRow
rows phase =
    row_of_leg (lsp 1 1 1) Work 1 Live None None (Some (link 3)) (Some 1) (Some 1) None
    ∷ row_of_leg (lsp 1 1 2) Back 1 phase None None (Some (link 1)) (Some 1) (Some 1) None
    ∷ row_of_leg (lsp 1 1 2) Back 2 phase (Some (link 1)) (Some 1) (Some (link 2)) (Some 1) (Some 1) (Some 1)
    ∷ row_of_leg (lsp 1 1 1) Work 3 Live (Some (link 3)) (Some 1) None None None (Some 1)
    ∷ row_of_leg (lsp 1 1 2) Back 3 phase (Some (link 2)) (Some 1) None None None (Some 1)
    ∷ []

-- after the run these legs stand, and the calls are in these states
record Shows (events : List MeshEvent) (legs : List LegRow) (states : List CallState) : Type 0 where
  legs_are : all_leg_rows network (after network start events) ≡ legs
  states_are : map (λ c. c.state) (all_call_rows network (after network start events)) ≡ states

enabled : all_enabled network start turned ≡ true
unfolding labels.numbers_from
enabled = refl

reserved : Shows set_up (rows Held) (Guarded ∷ [])
unfolding labels.numbers_from
reserved = record { legs_are = refl; states_are = refl }

carried : Shows turned (rows Live) (Turned ∷ [])
unfolding labels.numbers_from
carried = record { legs_are = refl; states_are = refl }

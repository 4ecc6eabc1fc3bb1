-- A call from node 3 to node 2 takes a label of the fibre over which a two-way call from node 1 to node 3 comes back.
-- A node that doesn't convert has no other label for the way back: it refuses the Path. One that converts takes
-- another.
use Rattle.std.proofs.Common.{◌≡◌, ℕ, Bool, true, false, List, [], ◌∷◌, ◌++◌, refl}
use Rattle.std.specs.Prelude.{Some, None}
use Rattle.ason_base.specs.{Codes.label_code, Network.Network, declared.calls.CallState.TheVariants.{Bare, Blocked}, declared.calls.Cause.TheVariants.{Code, Unset}, declared.calls.LegRow.LegRow, declared.calls.Phase.TheVariants.Live, declared.calls.Role.TheVariants.Work}
use Rattle.ason_base.specs.Labels as labels
use Rattle.mesh_rules.specs.{declared.events.MeshEvent.MeshEvent, Events.after, Machine.start, Rows.all_leg_rows}
use Rattle.mesh_examples.proofs.Scene.{all_enabled, seen_unreported, desk, link_spec, link, lsp, step_over, row_of_leg, seen_of, sets_up_alone, sets_up_both, spec, takes_each}

-- whether node 2 converts
abbrev network : Bool → Network
network converts = record {
  wait = 0;
  nodes = spec 1 false ∷ spec 2 converts ∷ spec 3 false ∷ [];
  links = link_spec 1 1 2 2 [] ∷ link_spec 2 2 3 2 [] ∷ [];
}

-- the second call is set up after the first, and then these messages are taken
abbrev both_set_up : List (ℕ × ℕ) → List MeshEvent
both_set_up taken =
    sets_up_alone 1 3 2 (step_over 3 2 ∷ [])
    ∷ desk 3
    ∷ takes_each ((2, 3) ∷ (3, 2) ∷ [])
    ++ sets_up_both 2 1 3 false (step_over 1 1 ∷ step_over 2 2 ∷ []) None
    ∷ desk 1
    ∷ takes_each taken

abbrev refused : List MeshEvent
refused = both_set_up ((2, 1) ∷ (1, 2) ∷ [])

abbrev converted : List MeshEvent
converted = both_set_up ((2, 1) ∷ (3, 2) ∷ (2, 3) ∷ (1, 2) ∷ [])

abbrev connected : List LegRow
connected =
    row_of_leg (lsp 1 1 1) Work 1 Live None None (Some (link 1)) (Some 1) (Some 1) None
    ∷ row_of_leg (lsp 1 1 1) Work 2 Live (Some (link 1)) (Some 1) (Some (link 2)) (Some 1) (Some 2) (Some 1)
    ∷ row_of_leg (lsp 3 1 1) Work 2 Live (Some (link 2)) (Some 1) None None None None
    ∷ row_of_leg (lsp 1 1 1) Work 3 Live (Some (link 2)) (Some 1) None None None (Some 2)
    ∷ row_of_leg (lsp 3 1 1) Work 3 Live None None (Some (link 2)) (Some 1) None None
    ∷ []

refused_enabled : all_enabled (network false) start refused ≡ true
unfolding labels.numbers_from
refused_enabled = refl

converted_enabled : all_enabled (network true) start converted ≡ true
unfolding labels.numbers_from
converted_enabled = refl

blocked : (seen_of (network false) (after (network false) start refused)).calls
    ≡ (seen_unreported 2 Blocked (Code label_code) ∷ []) ∷ [] ∷ (seen_unreported 1 Bare Unset ∷ []) ∷ []
unfolding labels.numbers_from
blocked = refl

other_label : all_leg_rows (network true) (after (network true) start converted) ≡ connected
unfolding labels.numbers_from
other_label = refl

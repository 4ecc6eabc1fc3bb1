-- The label on which a two-way call comes back is taken: a call from the other end gets the other label of the fibre,
-- or is blocked where the link has one label.
use Rattle.std.proofs.Common.{◌≡◌, ℕ, true, false, List, [], ◌∷◌, ◌++◌, refl}
use Rattle.std.specs.Prelude.{Some, None}
use Rattle.ason_base.specs.{Codes.set_code, Network.Network, declared.calls.CallState.TheVariants.{Bare, Blocked}, declared.calls.Cause.TheVariants.{Code, Unset}, declared.calls.LegRow.LegRow, declared.calls.Phase.TheVariants.Live, declared.calls.Role.TheVariants.Work}
use Rattle.ason_base.specs.Labels as labels
use Rattle.mesh_rules.specs.{declared.events.MeshEvent.MeshEvent, Events.after, Machine.start, Rows.all_leg_rows}
use Rattle.mesh_examples.proofs.Scene.{all_enabled, seen_unreported, desk, link_spec, link, lsp, step_over, row_of_leg, seen_of, sets_up_alone, sets_up_both, spec, takes_each}

abbrev network : ℕ → Network
network most = record { wait = 0; nodes = spec 1 false ∷ spec 2 false ∷ []; links = link_spec 1 1 2 most [] ∷ [] }

abbrev events : List MeshEvent
events =
    sets_up_both 1 1 2 false (step_over 1 1 ∷ []) None
    ∷ desk 1
    ∷ takes_each ((2, 1) ∷ (1, 2) ∷ [])
    ++ sets_up_alone 2 2 1 (step_over 2 1 ∷ [])
    ∷ desk 2
    ∷ takes_each ((1, 2) ∷ (2, 1) ∷ [])

abbrev first_call : List LegRow
first_call =
    row_of_leg (lsp 1 1 1) Work 1 Live None None (Some (link 1)) (Some 1) (Some 1) None
    ∷ row_of_leg (lsp 1 1 1) Work 2 Live (Some (link 1)) (Some 1) None None None (Some 1)
    ∷ []

abbrev both_calls : List LegRow
both_calls =
    row_of_leg (lsp 1 1 1) Work 1 Live None None (Some (link 1)) (Some 1) (Some 1) None
    ∷ row_of_leg (lsp 2 1 1) Work 1 Live (Some (link 1)) (Some 2) None None None None
    ∷ row_of_leg (lsp 1 1 1) Work 2 Live (Some (link 1)) (Some 1) None None None (Some 1)
    ∷ row_of_leg (lsp 2 1 1) Work 2 Live None None (Some (link 1)) (Some 2) None None
    ∷ []

enabled : all_enabled (network 2) start events ≡ true
unfolding labels.numbers_from
enabled = refl

other_label : all_leg_rows (network 2) (after (network 2) start events) ≡ both_calls
unfolding labels.numbers_from
other_label = refl

no_label : all_leg_rows (network 1) (after (network 1) start events) ≡ first_call
unfolding labels.numbers_from
no_label = refl

blocked : (seen_of (network 1) (after (network 1) start events)).calls
    ≡ (seen_unreported 1 Bare Unset ∷ []) ∷ (seen_unreported 2 Blocked (Code set_code) ∷ []) ∷ []
unfolding labels.numbers_from
blocked = refl

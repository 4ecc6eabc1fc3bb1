-- A call over links 1 and 2 of a triangle whose ingress doesn't know link 2 gets no backup, though a route over link 3
-- was given for it: it can't tell whether the two have a risk in common. Once it knows the link, an order protects the
-- call.
use Rattle.std.proofs.Common.{◌≡◌, true, List, [], ◌∷◌, ◌++◌, refl}
use Rattle.std.specs.Prelude.{map, Option, Some, None}
use Rattle.ason_base.specs.Labels as labels
use Rattle.ason_base.specs.{Network.Network, declared.calls.CallState.CallState, declared.calls.CallState.TheVariants.{Bare, Guarded, Pairing}, declared.calls.Cause.Cause, declared.calls.Cause.TheVariants.{NoBackup, Unset}, declared.ids.Lsp.Lsp}
use Rattle.mesh_rules.specs.{declared.events.MeshEvent.MeshEvent, Events.after, Machine.start}
use Rattle.mesh_examples.proofs.Scene.{all_enabled, desk, learns_links, lsp, step_over, protect_call, ring, sets_up, takes_from, takes_each}

abbrev network : Network
network = ring 1

-- the state, the cause and the backup LSP of each call of node 1
abbrev calls : List MeshEvent → List (CallState × Cause × Option Lsp)
calls events = map (λ c. (c.state, c.cause, c.back)) ((after network start events).nodes 1).calls

abbrev connected : List MeshEvent
connected =
    sets_up 1 1 3 (step_over 1 1 ∷ step_over 2 2 ∷ []) (step_over 1 3 ∷ [])
    ∷ desk 1
    ∷ takes_each ((2, 1) ∷ (3, 2) ∷ (2, 3) ∷ (1, 2) ∷ [])

unbacked : calls connected ≡ (Bare, NoBackup, None) ∷ []
unfolding labels.numbers_from
unbacked = refl

-- while the link is unknown the order gives no backup either
still_unbacked : calls (connected ++ protect_call 1 1 ∷ desk 1 ∷ []) ≡ (Bare, NoBackup, None) ∷ []
unfolding labels.numbers_from
still_unbacked = refl

abbrev protected : List MeshEvent
protected = connected ++ learns_links 1 (2 ∷ []) ++ learns_links 3 (1 ∷ []) ++ protect_call 1 1 ∷ desk 1 ∷ []

is_pairing : calls protected ≡ (Pairing, Unset, Some (lsp 1 1 2)) ∷ []
unfolding labels.numbers_from
is_pairing = refl

abbrev guarded : List MeshEvent
guarded = protected ++ takes_from 3 1 ∷ takes_from 1 3 ∷ []

is_guarded : calls guarded ≡ (Guarded, Unset, Some (lsp 1 1 2)) ∷ []
unfolding labels.numbers_from
is_guarded = refl

-- a call that is guarded isn't protected again
stays : calls (guarded ++ protect_call 1 1 ∷ desk 1 ∷ []) ≡ (Guarded, Unset, Some (lsp 1 1 2)) ∷ []
unfolding labels.numbers_from
stays = refl

enabled : all_enabled network start (guarded ++ protect_call 1 1 ∷ desk 1 ∷ []) ≡ true
unfolding labels.numbers_from
enabled = refl

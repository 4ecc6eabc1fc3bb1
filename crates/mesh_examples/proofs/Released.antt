-- A protected call over link 4 of a square, with a backup over links 1 to 3, is released. In which rows the hops of its
-- backup are on the way, and that nothing is left in the end.
use Rattle.std.proofs.Common.{◌≡◌, ℕ, true, false, List, [], ◌∷◌, ◌++◌, refl}
use Rattle.std.specs.Prelude.{map}
use Rattle.ason_base.specs.Labels as labels
use Rattle.ason_base.specs.{Codes.primary_code, Network.Network, declared.calls.CallState.CallState, declared.calls.CallState.TheVariants.{Bare, Guarded}, declared.calls.Cause.Cause, declared.calls.Cause.TheVariants.{Code, Unset}, declared.calls.Role.TheVariants.Back, declared.ids.Lsp.Lsp}
use Rattle.mesh_rules.specs.{declared.events.MeshEvent.MeshEvent, Events.after, Machine.{Mesh, start}}
use Rattle.lsp_laws.specs.HopLaw.{HasShape}
use Rattle.lsp_laws.specs.HopShapes as row
use Rattle.mesh_examples.proofs.Scene.{all_enabled, only_among, desk, link_spec, learns_links, lsp, node, step_over, release_call, Seen, seen_of, sets_up, spec, still, takes_from}

abbrev square : Network
square = record {
  wait = 0;
  nodes = spec 1 false ∷ spec 2 false ∷ spec 3 false ∷ spec 4 false ∷ [];
  links = link_spec 1 1 2 1 [] ∷ link_spec 2 2 3 1 [] ∷ link_spec 3 3 4 1 [] ∷ link_spec 4 1 4 1 [] ∷ [];
}

abbrev backup : Lsp
backup = lsp 1 1 2

abbrev reached : List MeshEvent → Mesh
reached events = after square start events

-- the state and the cause of each call of node 1
abbrev calls : Mesh → List (CallState × Cause)
calls s = map (λ c. (c.state, c.cause)) (s.nodes 1).calls

-- the working LSP stands, and the backup's Path is sent
abbrev pairing : MeshEvent
pairing = sets_up 1 1 4 (step_over 1 4 ∷ []) (step_over 1 1 ∷ step_over 2 2 ∷ step_over 3 3 ∷ [])

-- Released while it is guarded

abbrev guarded : List MeshEvent
guarded =
    learns_links 2 (4 ∷ []) ++ learns_links 3 (4 ∷ []) ++ pairing ∷ desk 1 ∷ takes_from 4 1 ∷ takes_from 1 4
    ∷ takes_from 2 1 ∷ takes_from 3 2 ∷ takes_from 4 3 ∷ takes_from 3 4 ∷ takes_from 2 3 ∷ takes_from 1 2 ∷ []

is_guarded : calls (reached guarded) ≡ (Guarded, Unset) ∷ []
unfolding labels.numbers_from
is_guarded = refl

-- the call is released after this run
abbrev released : List MeshEvent → List MeshEvent
released run = run ++ release_call 1 1 ∷ desk 1 ∷ []

torn : HasShape (reached (released guarded)) Back backup (node 1) (node 2)
unfolding labels.numbers_from
torn = row.TornStandby row.Closes row.NoAnswer

-- node 2 confirms, and tells node 3
abbrev confirmed : List MeshEvent
confirmed = released guarded ++ takes_from 2 1 ∷ []

let_go : HasShape (reached confirmed) Back backup (node 1) (node 2)
unfolding labels.numbers_from
let_go = row.LetGo row.Closes (row.StillWaits row.Closes) row.AtOnce

torn_on : HasShape (reached confirmed) Back backup (node 2) (node 3)
unfolding labels.numbers_from
torn_on = row.TornStandby row.Closes row.NoAnswer

-- node 1 lets go before node 2
ahead : HasShape (reached (confirmed ++ takes_from 1 2 ∷ [])) Back backup (node 1) (node 2)
unfolding labels.numbers_from
ahead = row.Ahead row.Closes

abbrev gone : List MeshEvent
gone =
    confirmed ++ takes_from 1 2 ∷ takes_from 3 2 ∷ takes_from 2 3 ∷ takes_from 4 3 ∷ takes_from 3 4 ∷ takes_from 4 1 ∷
    takes_from 1 4 ∷ []

-- four nodes and four links
abbrev nothing_left : List ℕ → Seen
nothing_left known = record (still 4 4) {
  legs = only_among 4 [];
  known = known;
}

enabled : all_enabled square start gone ≡ true
unfolding labels.numbers_from
enabled = refl

is_gone : seen_of square (reached gone) ≡ nothing_left (2 ∷ 3 ∷ 3 ∷ 2 ∷ [])
unfolding labels.numbers_from
is_gone = refl

-- Released while its backup is refused

-- node 2 doesn't know link 4
abbrev refused : List MeshEvent
refused = pairing ∷ desk 1 ∷ takes_from 4 1 ∷ takes_from 1 4 ∷ takes_from 2 1 ∷ []

is_refused : HasShape (reached refused) Back backup (node 1) (node 2)
unfolding labels.numbers_from
is_refused = row.Refused row.NothingLeft

is_bare : calls (reached (refused ++ takes_from 1 2 ∷ [])) ≡ (Bare, Code primary_code) ∷ []
unfolding labels.numbers_from
is_bare = refl

torn_refused : HasShape (reached (released refused)) Back backup (node 1) (node 2)
unfolding labels.numbers_from
torn_refused = row.TornRefused row.NothingLeft

left : HasShape (reached (released refused ++ takes_from 1 2 ∷ [])) Back backup (node 1) (node 2)
unfolding labels.numbers_from
left = row.Left row.NothingLeft

abbrev gone_then : List MeshEvent
gone_then = released refused ++ takes_from 1 2 ∷ takes_from 2 1 ∷ takes_from 4 1 ∷ takes_from 1 4 ∷ []

enabled_then : all_enabled square start gone_then ≡ true
unfolding labels.numbers_from
enabled_then = refl

idle : HasShape (reached gone_then) Back backup (node 1) (node 2)
unfolding labels.numbers_from
idle = row.Idle

is_gone_then : seen_of square (reached gone_then) ≡ nothing_left (2 ∷ 2 ∷ 2 ∷ 2 ∷ [])
unfolding labels.numbers_from
is_gone_then = refl

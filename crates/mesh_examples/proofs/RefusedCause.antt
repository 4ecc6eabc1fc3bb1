-- A run after which a node refuses a backup, and the cause that the law of refusals finds for it.
use Rattle.std.proofs.Common.{◌≡◌, true, false, List, [], ◌∷◌, ◌++◌, refl, sym, ap, ◌∙◌}
use Rattle.std.specs.Prelude.{None}
use Rattle.ason_base.specs.{Codes.set_code, declared.messages.Msg.Msg, declared.messages.Msg.TheVariants.{Path, PathErr}, declared.messages.PathRole.TheVariants.Back, declared.network.LinkSpec.LinkSpec}
use Rattle.ason_base.specs.Labels as labels
use Rattle.mesh_rules.specs.{declared.events.MeshEvent.MeshEvent, declared.events.MeshEvent.TheVariants.Take, Events.{after, step}, Machine.start}
use Rattle.lsp_laws.specs.HopLaw.{leg_at}
use Rattle.mesh_laws.specs.CauseLaw.{HasCause, IsLinkAt}
use Rattle.mesh_laws.proofs.causes.Refused.{every_refusal_has_cause}
use Rattle.mesh_examples.proofs.{Ends.runs, RefusedShare.first_try, Scene.{all_enabled, desk, link, lsp, node, step_over, protect_call, takes_from}, TakenLabel.network}

-- The call is to be protected again, and its Path has come as far as link 5, whose one label is kept by the other
-- backup.
abbrev events : List MeshEvent
events = first_try ++ protect_call 1 1 ∷ desk 1 ∷ takes_from 5 1 ∷ []

enabled : all_enabled network start events ≡ true
unfolding labels.numbers_from
enabled = refl

abbrev path : Msg
path = Path (lsp 1 1 3) (node 2) (link 5) (step_over 6 4 ∷ []) (1 ∷ []) None (Back false 1 (step_over 1 1 ∷ []))

abbrev refusal : Msg
refusal = PathErr (lsp 1 1 3) (node 2) (node 6) true set_code

came : (after network start events).mail 5 6 ≡ path ∷ []
unfolding labels.numbers_from
came = refl

no_leg : leg_at (after network start events) (lsp 1 1 3) (node 6) ≡ None
unfolding labels.numbers_from
no_leg = refl

nothing_there : (after network start events).mail 6 5 ≡ []
unfolding labels.numbers_from
nothing_there = refl

refused : (step network (after network start events) (Take (node 6) (node 5))).mail 6 5 ≡ refusal ∷ []
unfolding labels.numbers_from
refused = refl

-- node 6 takes the Path, and refuses it
cause : (l : LinkSpec) × IsLinkAt network (node 6) (link 5) l × HasCause network ((after network start events).nodes 6)
    (node 6) (record {
      lsp = lsp 1 1 3;
      egress = node 2;
      link = l;
      route = step_over 6 4 ∷ [];
      set = 1 ∷ [];
      upstream = None;
      role = Back false 1 (step_over 1 1 ∷ []);
    }) set_code
cause =
    every_refusal_has_cause network events (runs network start events enabled) (node 5) (node 6) (node 2) (lsp 1 1 3)
    (link 5) (step_over 6 4 ∷ []) (1 ∷ []) None (Back false 1 (step_over 1 1 ∷ [])) [] set_code (λ e. cc e) came no_leg
    (refused ∙ ap (λ ms. ms ++ refusal ∷ []) (sym nothing_there))

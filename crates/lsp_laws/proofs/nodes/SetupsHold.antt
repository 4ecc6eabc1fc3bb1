-- What holds of the call that a setup makes.
use Rattle.std.proofs.Common.{true, false, ◌⊎◌, inl, inr, ◌≡◌, List, refl}
use Rattle.std.specs.Prelude.{Option, Some, None, drop}
use Rattle.ason_base.specs.{declared.calls.CallState.TheVariants.{Asking, Blocked}, Codes.label_code, declared.calls.Cause.TheVariants.{Code, Full, NoRoute, Spent, Unset}, declared.calls.Cause.Cause, declared.messages.PathRole.TheVariants.Work, declared.ids.CallNo.CallNo, declared.network.LinkSpec.LinkSpec, declared.steps.Step.Step, declared.tables.CallRec.CallRec}
use Rattle.mesh_rules.specs.{Changes.Answer, FirstLegs.{first_link, is_full, lacks_first_back}, KnownRows.known_rows, LeastRoutes.{Trip, least_trip}, LocalNodes.LocalNode, Setups.{SetupRequest, begins, call_record, next_lsp, refused_setup, is_order_here, is_spent, new_call, over_first, over_found, setup_with}, State.NodeState}
use Rattle.mesh_nodes.proofs.Cases.{if_cases}
use Rattle.lsp_laws.specs.CallLaw.{is_unset}
use Rattle.lsp_laws.proofs.nodes.CallChanges.{AreChanges}

-- A call that is set up: what holds of it may hang on the whole answer. It is blocked, or its working LSP is asked for
-- over the route that was given or one that was found.
module _ (G : CallNo → Type 0) (p : LocalNode) (s : NodeState) (w : SetupRequest) (Q : Answer → CallRec → Type 0)
    (lone : (a : Answer) (cause : Cause) → is_unset cause ≡ false → Q a (call_record w Blocked None cause))
    (begun : (route : List Step) (out : LinkSpec) → (w.via ≡ Some route) ⊎ (w.via ≡ None) →
    first_link p route ≡ Some out → is_order_here p w ≡ true →
    lacks_first_back p s w.both (Work w.protected) out ≡ false →
    Q (begins p s w out (drop 1 route)) (call_record w Asking (Some (next_lsp p s)) Unset)) where
  abbrev pub SetUp : Answer → Type 0
  SetUp a = AreChanges G (Q a) a.calls

  refused-holds : (cause : Cause) → is_unset cause ≡ false → SetUp (refused_setup w cause)
  refused-holds cause known = (lone (refused_setup w cause) cause known, tt)

  module _ (ordered : is_order_here p w ≡ true) where
    over_first-holds : (route : List Step) → (w.via ≡ Some route) ⊎ (w.via ≡ None) → (o : Option LinkSpec) →
        first_link p route ≡ o → SetUp (over_first p s w route o)
    over_first-holds route way None first = tt
    over_first-holds route way (Some out) first =
        if_cases SetUp (is_spent s) _ _ (λ e. refused-holds Spent refl)
        (λ e. if_cases SetUp (is_full s) _ _ (λ f. refused-holds Full refl)
        (λ f. if_cases SetUp (lacks_first_back p s w.both (Work w.protected) out) _ _
        (λ h. refused-holds (Code label_code) refl) (λ h. (begun route out way first ordered h, tt))))

    over_found-holds : w.via ≡ None → (o : Option Trip) → SetUp (over_found p s w o)
    over_found-holds none None = refused-holds NoRoute refl
    over_found-holds none (Some r) = over_first-holds r.steps (inr none) (first_link p r.steps) refl

    new_call-holds : (o : Option (List Step)) → w.via ≡ o → SetUp (new_call p s w o)
    new_call-holds None is = over_found-holds is (least_trip (known_rows p s) p.id w.egress)
    new_call-holds (Some route) is = over_first-holds route (inl is) (first_link p route) refl

  pub setup-holds : (o : Option CallRec) → AreChanges G (Q (setup_with p s w o)) (setup_with p s w o).calls
  setup-holds (Some c) = tt
  setup-holds None = if_cases SetUp (is_order_here p w) _ _ (λ e. new_call-holds e w.via refl) (λ e. tt)

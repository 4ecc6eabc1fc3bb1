-- A setup puts a call that asks for its working LSP, or a blocked one with its cause.
use Rattle.std.proofs.{Common.{◌≡◌, Bool, true, false, nat_lt, List, [], refl, sym, subst, inl, inr}, lemmas.Bool.or_cases}
use Rattle.std.specs.Prelude.{Option, Some, None, drop}
use Rattle.ason_base.specs.{Codes.label_code, Network.Network, declared.calls.CallState.TheVariants.{Asking, Blocked}, declared.calls.Cause.Cause, declared.calls.Cause.TheVariants.{Code, Full, NoRoute, Spent, Unset}, declared.ids.NodeId.NodeId, declared.network.LinkSpec.LinkSpec, declared.steps.Step.Step, declared.tables.CallRec.CallRec, Walks.{IsWalk, NoLink, NoNode}}
use Rattle.ason_base.specs.declared.calls.Role.TheVariants as role
use Rattle.ason_base.specs.declared.messages.PathRole.TheVariants as path
use Rattle.mesh_rules.specs.{declared.limits.TheConstants.LAST_NUMBER, FirstLegs.{first_link, is_full, lacks_first_back}, KnownRows.known_rows, LeastRoutes.{Trip, least_trip}, Legs.reverse, LocalNodes.{LocalNode, fibre_out, is_link_there, local_node, own_link}, Setups.{SetupRequest, begins, call_record, is_followable, is_order_here, is_spent, new_call, next_lsp, over_first, over_found, refused_setup, setup_with}, State.NodeState}
use Rattle.mesh_nodes.specs.Routes.{RowsFit}
use Rattle.mesh_nodes.proofs.{Cases.if_cases, routes.Found.{least_trip-least, no_trip-none}}
use Rattle.lsp_laws.proofs.{hops.Plans.found_id, hops.Stepped.starts_over}
use Rattle.mesh_laws.specs.{ActsLaw.IsSetUp, CauseLaw.{GoesOver, HasNoNumber, HasNoReturn, HasNoRoom, HasNoRoute, SetupCause}}
use Rattle.ason_base.proofs.Bools.{not-self}
use Rattle.mesh_laws.proofs.{causes.KeptOff.{all-kept_off, own-link-at}, acts.Puts.Puts, acts.Tests.{above, most}}

module _ (t : Network) (n : NodeId) (s : NodeState) (w : SetupRequest) where
  abbrev place : LocalNode
  place = local_node t n

  abbrev SetUp : CallRec → Type 0
  SetUp d = IsSetUp t s n w.call w.egress w.protected w.both w.via w.backup d

  abbrev Caused : Cause → Type 0
  Caused cause = SetupCause t s n w.egress w.via w.both cause

  refused-puts : (cause : Cause) → Caused cause → Puts w.call SetUp (refused_setup w cause)
  refused-puts cause known = record {
    one = call_record w Blocked None cause;
    puts = refl;
    number = refl;
    holds = record {
      number = refl;
      egress = refl;
      protected_so = refl;
      backup_so = refl;
      state = inr (refl, known);
    };
  }

  begun-puts : (out : LinkSpec) (route : List Step) → Puts w.call SetUp (begins place s w out route)
  begun-puts out route = record {
    one = call_record w Asking (Some (next_lsp place s)) Unset;
    puts = refl;
    number = refl;
    holds = record {
      number = refl;
      egress = refl;
      protected_so = refl;
      backup_so = refl;
      state = inl refl;
    };
  }

  -- the route that the call goes over
  abbrev Over : List Step → Type 0
  Over route = GoesOver w.via (IsWalk (known_rows (local_node t n) s) NoLink NoNode n w.egress) route

  no-return : (route : List Step) (out : LinkSpec) → Over route →
      first_link (local_node t n) route ≡ Some out → (both : Bool) → w.both ≡ both →
      lacks_first_back (local_node t n) s both (path.Work w.protected) out ≡ true → Caused (Code label_code)
  no-return route out way first false is lacks = absurd (cc lacks)
  no-return route out way first true is lacks =
      let starts = starts_over place route out first in
      let own : own_link (local_node t n) out.id ≡ Some out =
      subst (λ i. own_link (local_node t n) i ≡ Some out)
      (sym (found_id starts.hop.link (local_node t n).own out starts.over)) starts.over in
      HasNoReturn starts.hop starts.further out (reverse (fibre_out out n)) refl is
      (subst Over starts.is way)
      (own-link-at t n starts.hop.link out starts.over)
      (record { link = refl; forward = λ e. not-self (fibre_out out n).forward e })
      (all-kept_off place s.legs role.Work [] (reverse (fibre_out out n)) out own lacks)

  over-puts : (route : List Step) → Over route → (o : Option LinkSpec) →
      first_link (local_node t n) route ≡ o → is_link_there o ≡ true → Puts w.call SetUp (over_first place s w route o)
  over-puts route way None first there = absurd (cc there)
  over-puts route way (Some out) first there =
      if_cases (Puts w.call SetUp) (is_spent s) _ _
      (λ e. refused-puts Spent (HasNoNumber refl (elim (or_cases (nat_lt LAST_NUMBER s.lsp) _ e) [
        | inl is ↦ inl (above s.lsp is)
        | inr is ↦ inr (above s.tunnel is)
      ])))
      (λ e. if_cases (Puts w.call SetUp) (is_full s) _ _ (λ f. refused-puts Full (HasNoRoom refl (most _ f)))
      (λ f. if_cases (Puts w.call SetUp) (lacks_first_back place s w.both (path.Work w.protected) out) _ _
      (λ h. refused-puts (Code label_code) (no-return route out way first w.both refl h))
      (λ h. begun-puts out (drop 1 route))))

  found-puts : RowsFit (local_node t n) s → w.via ≡ None → (o : Option Trip) →
      least_trip (known_rows (local_node t n) s) n w.egress ≡ o →
      ((r : Trip) → o ≡ Some r → is_followable place (Some r.steps) ≡ true) → Puts w.call SetUp (over_found place s w o)
  found-puts rows none None is follows =
      refused-puts NoRoute (HasNoRoute refl none ((no_trip-none (known_rows place s) n w.egress rows.searchable).0 is))
  found-puts rows none (Some r) is follows =
      over-puts r.steps
      (inr (none, (r.cost, (least_trip-least (known_rows place s) n w.egress r rows.searchable).0 is))) (first_link place r.steps) refl (follows r refl)

  new-puts : RowsFit (local_node t n) s → (o : Option (List Step)) → w.via ≡ o →
      ((route : List Step) → o ≡ Some route → is_followable place (Some route) ≡ true) →
      ((r : Trip) → least_trip (known_rows place s) place.id w.egress ≡ Some r → is_followable place (Some r.steps) ≡ true) →
      Puts w.call SetUp (new_call place s w o)
  new-puts rows None is given found = found-puts rows is (least_trip (known_rows place s) place.id w.egress) refl found
  new-puts rows (Some route) is given found =
      over-puts route (inl is) (first_link place route) refl (given route refl)

  -- the setup of a new call, over the route that is given or found
  pub setup-puts : RowsFit (local_node t n) s → is_order_here place w ≡ true →
      ((route : List Step) → w.via ≡ Some route → is_followable place (Some route) ≡ true) →
      ((r : Trip) → least_trip (known_rows place s) place.id w.egress ≡ Some r → is_followable place (Some r.steps) ≡ true) →
      Puts w.call SetUp (setup_with place s w None)
  setup-puts rows here given found = rw here (new-puts rows w.via refl given found)

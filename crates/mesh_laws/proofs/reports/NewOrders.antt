-- A call that gets a new LSP from a desk item knows nothing of its fibres to be down.
use Rattle.std.proofs.Common.{◌≡◌, Bool, true, false, cond, nat_eq, not, List, [], ◌∷◌, refl, sym, ◌∙◌, subst}
use Rattle.std.specs.Prelude.{◌&&◌, Option, Some, None}
use Rattle.ason_base.specs.{Lsps.{has_fibre, is_lsp}, declared.calls.CallState.CallState, declared.calls.CallState.TheVariants.{Asking, Blocked}, declared.calls.Cause.Cause, declared.calls.Cause.TheVariants.{Code, Full, NoRoute, Spent, Unset}, declared.commands.Command.Command, declared.commands.DeskItem.DeskItem, declared.commands.DeskItem.TheVariants.{Order, Alarm, Clear}, declared.ids.CallNo.CallNo, declared.ids.Fibre.Fibre, declared.ids.Lsp.Lsp, declared.ids.NodeId.NodeId, declared.messages.PathRole.TheVariants.Work, declared.network.LinkSpec.LinkSpec, declared.steps.Step.Step, declared.tables.CallRec.CallRec, declared.tables.Leg.Leg, Codes.label_code}
use Rattle.mesh_rules.specs.{declared.changes.CallChange.CallChange, Alarms.enters, Calls.{calls_changed, find_call, is_bare, is_stuck, is_turned, names}, Changes.{Answer, nothing}, Events.on_first_item, FirstLegs.{first_link, is_full, lacks_first_back}, KnownRows.known_rows, LeastRoutes.{Trip, least_trip}, Legs.leg_of, LocalNodes.{LocalNode, own_link}, Orders.{on_item, on_order}, Protects.{protect_with, protects}, Releases.{release_with, releases}, Retries.retry_with, Reverts.revert_with, Setups.{SetupRequest, call_record, is_order_here, is_spent, new_call, next_lsp, over_first, over_found, setup_with}, State.NodeState, Turns.has_any}
use Rattle.mesh_rules.specs.declared.changes.CallChange.TheVariants as call
use Rattle.mesh_rules.proofs.AnswerParts.{tears-no_call}
use Rattle.mesh_nodes.specs.Order.{CallsRise}
use Rattle.mesh_nodes.proofs.{CallList.{find-without_call, found-number}, Cases.if_cases, ByKind.by-order}
use Rattle.lsp_laws.specs.ReportLaw.{reports_of}
use Rattle.mesh_laws.proofs.{reports.Reported.{go_back-puts, turn-puts}, reports.NewParts.{AreCallsNew, IsAnswerNew, new-from, new-none, new-put, pair-new}}

module _ (p : LocalNode) (s : NodeState) (rise : CallsRise s.calls) (l : Lsp)
    (unnamed : (k : CallNo) (c : CallRec) → find_call k s.calls ≡ Some c → names l c ≡ false) where
  abbrev New : Answer → Type 0
  New = IsAnswerNew p s rise l unnamed

  nothing-new : New nothing
  nothing-new = new-none p s rise l unnamed [] refl

  no-reports : (w : SetupRequest) (state : CallState) (work : Option Lsp) (cause : Cause) →
      reports_of l (call_record w state work cause) ≡ []
  no-reports w state work cause = go (is_lsp work l)
    where
      go : (b : Bool) → cond {A = List Fibre} b [] [] ≡ []
      go true = refl
      go false = refl

  record-new : (w : SetupRequest) (state : CallState) (work : Option Lsp) (cause : Cause)
      (changes : List CallChange) → changes ≡ call.Put (call_record w state work cause) ∷ [] →
      AreCallsNew p s rise l unnamed changes
  record-new w state work cause changes is =
      new-put p s rise l unnamed changes (call_record w state work cause) is (λ named. no-reports w state work cause)

  setup-new : (w : SetupRequest) (o : Option CallRec) → New (setup_with p s w o)
  setup-new w (Some c) = nothing-new
  setup-new w None = if_cases New (is_order_here p w) _ _ (λ e. begun w.via) (λ e. nothing-new)
    where
      over : (route : List Step) (o : Option LinkSpec) → New (over_first p s w route o)
      over route None = nothing-new
      over route (Some out) =
          if_cases New (is_spent s) _ _ (λ e. record-new w Blocked None Spent _ refl)
          (λ e. if_cases New (is_full s) _ _ (λ f. record-new w Blocked None Full _ refl)
          (λ f. if_cases New (lacks_first_back p s w.both (Work w.protected) out) _ _
          (λ h. record-new w Blocked None (Code label_code) _ refl)
          (λ h. record-new w Asking (Some (next_lsp p s)) Unset _ refl)))

      found : (o : Option Trip) → New (over_found p s w o)
      found None = record-new w Blocked None NoRoute _ refl
      found (Some r) = over r.steps (first_link p r.steps)

      begun : (via : Option (List Step)) → New (new_call p s w via)
      begun None = found (least_trip (known_rows p s) p.id w.egress)
      begun (Some route) = over route (first_link p route)

  goes-new : (c : CallRec) (changes : List CallChange) → changes ≡ call.Goes c.call ∷ [] →
      AreCallsNew p s rise l unnamed changes
  goes-new c changes is k x found named =
      go (nat_eq c.call.0 k.0) (sym (find-without_call c.call s.calls k)
      ∙ subst (λ cs. find_call k (calls_changed cs s.calls) ≡ Some x) is found)
    where
      go : (b : Bool) → cond b None (find_call k s.calls) ≡ Some x → reports_of l x ≡ []
      go true e = absurd (cc e)
      go false e = absurd (let never = unnamed k x e in cc (never, named))

  release-new : (from : NodeId) (o : Option CallRec) → New (release_with p s from o)
  release-new from None = nothing-new
  release-new from (Some c) =
      if_cases New (nat_eq from.0 p.id.0) _ _
      (λ e. goes-new c (releases s c).calls
      (rw (tears-no_call (leg_of c.work s.legs), tears-no_call (leg_of c.back s.legs)) refl))
      (λ e. nothing-new)

  own-call : (n : CallNo) (c : CallRec) → find_call n s.calls ≡ Some c → find_call c.call s.calls ≡ Some c
  own-call n c found = subst (λ k. find_call k s.calls ≡ Some c) (sym (found-number n s.calls c found)) found

  protects-new : (c : CallRec) → find_call c.call s.calls ≡ Some c → (o : Option Leg) → New (protects p s c o)
  protects-new c there None = nothing-new
  protects-new c there (Some w) = pair-new p s rise l unnamed c w there

  protect-new : (n : CallNo) (from : NodeId) (o : Option CallRec) → find_call n s.calls ≡ o →
      New (protect_with p s from o)
  protect-new n from None is = nothing-new
  protect-new n from (Some c) is =
      if_cases New (nat_eq from.0 p.id.0 && is_bare c.state) _ _
      (λ e. protects-new c (own-call n c is) (leg_of c.work s.legs)) (λ e. nothing-new)

  retry-new : (n : CallNo) (from : NodeId) (o : Option CallRec) → find_call n s.calls ≡ o →
      New (retry_with p s from o)
  retry-new n from None is = nothing-new
  retry-new n from (Some c) is =
      if_cases New (nat_eq from.0 p.id.0) _ _
      (λ e. if_cases New (is_stuck c.state && (has_any c.work_reports && not (has_any c.back_reports))) _ _
      (λ f. let puts = turn-puts l s.legs c (leg_of c.back s.legs) in
      new-from p s rise l unnamed _ c puts.put (own-call n c is) puts.calls
      (λ named. sym puts.same_names ∙ named))
      (λ f. nothing-new))
      (λ e. nothing-new)

  revert-new : (n : CallNo) (from : NodeId) (o : Option CallRec) → find_call n s.calls ≡ o →
      New (revert_with p s from o)
  revert-new n from None is = nothing-new
  revert-new n from (Some c) is =
      if_cases New (nat_eq from.0 p.id.0) _ _
      (λ e. if_cases New (is_turned c.state && not (has_any c.work_reports)) _ _
      (λ f. let puts = go_back-puts l c (leg_of c.back s.legs) in
      new-from p s rise l unnamed _ c puts.put (own-call n c is) puts.calls
      (λ named. sym puts.same_names ∙ named))
      (λ f. nothing-new))
      (λ e. nothing-new)

  order-new : (c : Command) → New (on_order p s c)
  order-new =
      by-order New p s nothing-new (λ w. setup-new w (find_call w.call s.calls))
      (λ n from. release-new from (find_call n s.calls)) (λ n from. protect-new n from (find_call n s.calls) refl)
      (λ n from. retry-new n from (find_call n s.calls) refl) (λ n from. revert-new n from (find_call n s.calls) refl)

  pub item-new : (i : DeskItem) → New (on_item p s i)
  item-new (Order c) = order-new c
  item-new (Alarm f) =
      if_cases New (enters p f (own_link p f.link) && not (has_fibre s.down f)) _ _
      (λ e. new-none p s rise l unnamed _ refl) (λ e. nothing-new)
  item-new (Clear f) =
      if_cases New (enters p f (own_link p f.link) && has_fibre s.down f) _ _ (λ e. new-none p s rise l unnamed _ refl)
      (λ e. nothing-new)

  pub first_item-new : (items : List DeskItem) → New (on_first_item p s items)
  first_item-new [] = nothing-new
  first_item-new (i ∷ items) = item-new i

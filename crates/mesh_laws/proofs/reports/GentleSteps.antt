-- Orders, and messages but the LSP's own Notifies and its first Path, tell nothing of the fibres of an LSP's route.
use Rattle.std.proofs.Common.{◌≡◌, ◌+◌, Bool, true, false, cond, nat_eq, not, List, [], ◌∷◌, drop, refl, sym, ◌∙◌, subst}
use Rattle.std.specs.Prelude.{◌&&◌, Option, Some, None}
use Rattle.ason_base.specs.{Lsps.same_lsp, declared.calls.Cause.Cause, declared.calls.Cause.TheVariants.{Code, Full, NoRoute, Spent, Unset}, declared.calls.CallState.TheVariants.{Asking, Blocked}, declared.commands.Command.Command, declared.ids.CallNo.CallNo, declared.ids.Lsp.Lsp, declared.ids.NodeId.NodeId, declared.messages.Msg.Msg, declared.messages.Msg.TheVariants.{Path, Resv, PathTear, PathErr, Notify}, declared.messages.PathRole.TheVariants.Work, declared.network.LinkSpec.LinkSpec, declared.steps.Step.Step, declared.tables.CallRec.CallRec, declared.tables.Leg.Leg, Codes.label_code}
use Rattle.ason_base.specs.declared.calls.Role.TheVariants as role
use Rattle.mesh_rules.specs.declared.changes.CallChange.TheVariants as call
use Rattle.mesh_rules.specs.declared.changes.LegChange.TheVariants as leg
use Rattle.mesh_rules.specs.{declared.neighbours.Neighbour.Neighbour, Calls.{find_call, is_bare, is_stuck, is_turned}, Changes.{Answer, changed, changes_calls, followed_by, puts}, FirstLegs.{first_link, is_full, lacks_first_back}, KnownRows.known_rows, LeastRoutes.{Trip, least_trip}, Legs.{closed, find_leg, following, is_closing, leg_of}, LocalNodes.{LocalNode, own_link}, Messages.{arrival, on_message}, Orders.on_order, Pairs.beside_lsp, Paths.{PathRequest, first_path, is_active, path_with}, Protects.{protect_with, protects}, Releases.{release_with, releases, tear_to, tears}, PathErrs.path_err_with, Notifies.notify_with, Resvs.resv_with, Retries.retry_with, Reverts.revert_with, Setups.{SetupRequest, admitted_setup, call_record, is_order_here, is_spent, new_call, next_lsp, over_first, over_found, refused_setup, setup_with, working_lsp}, State.NodeState, Tears.tear_with, Turns.has_any}
use Rattle.mesh_nodes.proofs.{CallList.found-number, Cases.if_cases, LegList.{find-with_leg, found-lsp, same_lsp-eq}, ByKind.by-order}
use Rattle.lsp_laws.specs.{CallLaw.FitsLegs, HopLaw.{is_notice_of, lsp_of}}
use Rattle.lsp_laws.proofs.{nodes.BackLabels.closed-closing, nodes.Facts.NodeFacts, hops.NamedPhases.named_is}
use Rattle.mesh_laws.proofs.{reports.GentleWords.{AllMild, IsGentle, LegKeeps, is_plain}, reports.AnswerParts.{both-gentle, calls-gentle, goes-call, mild-gentle, nothing-gentle, put-other, same-calls}, reports.GentleAnswers.{asks-gentle, go_back-gentle, pair-gentle, turn-gentle}, reports.StoodLegs.closing-done, reports.StandingCalls.{IsOldLsp, leg-stands, leg-there, new-apart}, reports.GentleRules.{again-gentle, err-gentle, first_path-gentle, notify-gentle, resv-gentle, tear-gentle}}

module _ (p : LocalNode) (s : NodeState) (facts : NodeFacts p.id.0 s) (l : Lsp) (old : IsOldLsp p s l) where
  -- Setup

  refused_setup-gentle : (w : SetupRequest) (cause : Cause) → IsGentle s l (refused_setup w cause)
  refused_setup-gentle w cause =
      calls-gentle s l (call.Put (call_record w Blocked None cause) ∷ [])
      (put-other l s.calls (call_record w Blocked None cause) refl)

  next-apart : same_lsp (next_lsp p s) l ≡ false
  next-apart = new-apart p s facts l old (next_lsp p s) refl refl

  admitted_setup-gentle : (w : SetupRequest) (out : LinkSpec) (route : List Step) →
      IsGentle s l (admitted_setup p s w out route)
  admitted_setup-gentle w out route =
      if_cases (IsGentle s l) (is_spent s) _ _ (λ e. refused_setup-gentle w Spent)
      (λ e. if_cases (IsGentle s l) (is_full s) _ _ (λ f. refused_setup-gentle w Full)
      (λ f. if_cases (IsGentle s l) (lacks_first_back p s w.both (Work w.protected) out) _ _
      (λ h. refused_setup-gentle w (Code label_code))
      (λ h. asks-gentle p s s l (working_lsp p s w out route) (call_record w Asking (Some (next_lsp p s)) Unset)
      (record { tunnel = s.tunnel + 1; lsp = s.lsp + 1 }) next-apart
      (put-other l s.calls (call_record w Asking (Some (next_lsp p s)) Unset) (rw next-apart refl)))))

  over_first-gentle : (w : SetupRequest) (route : List Step) (o : Option LinkSpec) →
      IsGentle s l (over_first p s w route o)
  over_first-gentle w route None = nothing-gentle s l
  over_first-gentle w route (Some out) = admitted_setup-gentle w out (drop 1 route)

  over_found-gentle : (w : SetupRequest) (o : Option Trip) → IsGentle s l (over_found p s w o)
  over_found-gentle w None = refused_setup-gentle w NoRoute
  over_found-gentle w (Some r) = over_first-gentle w r.steps (first_link p r.steps)

  new_call-gentle : (w : SetupRequest) (via : Option (List Step)) → IsGentle s l (new_call p s w via)
  new_call-gentle w None = over_found-gentle w (least_trip (known_rows p s) p.id w.egress)
  new_call-gentle w (Some route) = over_first-gentle w route (first_link p route)

  setup-gentle : (w : SetupRequest) (o : Option CallRec) → IsGentle s l (setup_with p s w o)
  setup-gentle w (Some c) = nothing-gentle s l
  setup-gentle w None =
      if_cases (IsGentle s l) (is_order_here p w) _ _ (λ e. new_call-gentle w w.via) (λ e. nothing-gentle s l)

  -- Release

  tear-mild : (g : Leg) (h : Option Neighbour) → AllMild l (tear_to g h)
  tear-mild g None = tt
  tear-mild g (Some h) = ((λ own. (refl, refl)), tt)

  -- a leg that is among these closes
  close-leg : (r : NodeState) (g : Leg) → (find_leg g.lsp r.legs ≡ None → ⊥) →
      IsGentle r l (puts (closed g) (tear_to g (following g)))
  close-leg r g there =
      mild-gentle r l (puts (closed g) (tear_to g (following g))) (go (same_lsp g.lsp l) refl)
      (tear-mild g (following g)) refl (same-calls l r.calls)
    where
      never : (b : Bool) → b ≡ true → not b ≡ true → ⊥
      never true e h = cc h
      never false e h = cc e

      go : (b : Bool) → same_lsp g.lsp l ≡ b → LegKeeps l (find_leg l r.legs) (leg.Put (closed g) ∷ [])
      go true e = record {
        stands = λ h. absurd (never (is_closing (closed g).phase) (closed-closing g.phase g.role) (rw e at h));
        gone = λ none. absurd (there (subst (λ k. find_leg k r.legs ≡ None) (sym (same_lsp-eq g.lsp l e)) none));
        waits = λ h. absurd (let h' = (rw e at h) in let done = closing-done g.phase g.role in cc (h', done));
      }
      go false e = record { stands = λ h. (rw e at h); gone = λ none. rw e none; waits = λ h. (rw e at h) }

  tears-gentle : (r : NodeState) (o : Option Leg) → ((g : Leg) → o ≡ Some g → find_leg g.lsp r.legs ≡ None → ⊥) →
      IsGentle r l (tears o)
  tears-gentle r None there = nothing-gentle r l
  tears-gentle r (Some g) there = close-leg r g (there g refl)

  found-some : (r : NodeState) (o : Option Lsp) (g : Leg) → leg_of o s.legs ≡ Some g →
      find_leg g.lsp s.legs ≡ None → ⊥
  found-some r o g is none = let found = leg-there p s facts l o g is in cc (found, none)

  -- where the first leg has closed, the second one is there as before
  still-some : (first : Option Leg) (o : Option Lsp) (g : Leg) → leg_of o s.legs ≡ Some g →
      find_leg g.lsp (changed s (tears first)).legs ≡ None → ⊥
  still-some None o g is none = found-some s o g is none
  still-some (Some h) o g is none = go (same_lsp h.lsp g.lsp) (sym (find-with_leg (closed h) s.legs g.lsp) ∙ none)
    where
      go : (b : Bool) → cond b (Some (closed h)) (find_leg g.lsp s.legs) ≡ None → ⊥
      go true e = cc e
      go false e = found-some s o g is e

  abbrev goes : CallRec → Answer
  goes c = changes_calls (call.Goes c.call ∷ [])

  abbrev after-work : CallRec → NodeState
  after-work c = changed s (tears (leg_of c.work s.legs))

  abbrev after-both : CallRec → NodeState
  after-both c = changed (after-work c) (tears (leg_of c.back s.legs))

  released-gentle : (c : CallRec) → IsGentle s l (releases s c)
  released-gentle c =
      both-gentle s l (tears (leg_of c.work s.legs)) (followed_by (tears (leg_of c.back s.legs)) (goes c))
      (tears-gentle s (leg_of c.work s.legs) (λ g is. found-some s c.work g is))
      (both-gentle (after-work c) l (tears (leg_of c.back s.legs)) (goes c)
      (tears-gentle (after-work c) (leg_of c.back s.legs) (λ g is. still-some (leg_of c.work s.legs) c.back g is))
      (calls-gentle (after-both c) l (call.Goes c.call ∷ []) (goes-call l (after-both c).calls c.call)))

  release-gentle : (from : NodeId) (o : Option CallRec) → IsGentle s l (release_with p s from o)
  release-gentle from None = nothing-gentle s l
  release-gentle from (Some c) =
      if_cases (IsGentle s l) (nat_eq from.0 p.id.0) _ _ (λ e. released-gentle c) (λ e. nothing-gentle s l)

  -- Protect, retry and revert

  work-begins : (n : CallNo) (c : CallRec) (w : Leg) → find_call n s.calls ≡ Some c → (o : Option Lsp) →
      c.work ≡ o → leg_of o s.legs ≡ Some w → w.lsp.ingress.0 ≡ p.id.0
  work-begins n c w found None is here = absurd (cc here)
  work-begins n c w found (Some k) is here =
      let fit : FitsLegs p.id.0 s.lsp s.legs c = facts.call n c found in
      let named = named_is p.id.0 s.lsp s.legs role.Work c.egress c.work k fit.work is in
      subst (λ (j : Lsp). j.ingress.0 ≡ p.id.0) (sym (found-lsp k s.legs w here)) named.ingress

  own-call : (n : CallNo) (c : CallRec) → find_call n s.calls ≡ Some c → find_call c.call s.calls ≡ Some c
  own-call n c found = subst (λ k. find_call k s.calls ≡ Some c) (sym (found-number n s.calls c found)) found

  protects-gentle : (n : CallNo) (c : CallRec) → find_call n s.calls ≡ Some c → (o : Option Leg) →
      leg_of c.work s.legs ≡ o → IsGentle s l (protects p s c o)
  protects-gentle n c found None is = nothing-gentle s l
  protects-gentle n c found (Some w) is =
      pair-gentle p s s l c (own-call n c found) w
      (new-apart p s facts l old (beside_lsp w.lsp s.lsp) (work-begins n c w found c.work refl is) refl)

  protect-gentle : (n : CallNo) (from : NodeId) (o : Option CallRec) → find_call n s.calls ≡ o →
      IsGentle s l (protect_with p s from o)
  protect-gentle n from None is = nothing-gentle s l
  protect-gentle n from (Some c) is =
      if_cases (IsGentle s l) (nat_eq from.0 p.id.0 && is_bare c.state) _ _
      (λ e. protects-gentle n c is (leg_of c.work s.legs) refl) (λ e. nothing-gentle s l)

  retry-gentle : (n : CallNo) (from : NodeId) (o : Option CallRec) → find_call n s.calls ≡ o →
      IsGentle s l (retry_with p s from o)
  retry-gentle n from None is = nothing-gentle s l
  retry-gentle n from (Some c) is =
      if_cases (IsGentle s l) (nat_eq from.0 p.id.0) _ _
      (λ e. if_cases (IsGentle s l) (is_stuck c.state && (has_any c.work_reports && not (has_any c.back_reports))) _ _
      (λ f. turn-gentle s l c (own-call n c is) s.legs c (leg_of c.back s.legs) refl (λ named. (named, refl))
      (leg-stands p s facts l c.back))
      (λ f. nothing-gentle s l))
      (λ e. nothing-gentle s l)

  revert-gentle : (n : CallNo) (from : NodeId) (o : Option CallRec) → find_call n s.calls ≡ o →
      IsGentle s l (revert_with p s from o)
  revert-gentle n from None is = nothing-gentle s l
  revert-gentle n from (Some c) is =
      if_cases (IsGentle s l) (nat_eq from.0 p.id.0) _ _
      (λ e. if_cases (IsGentle s l) (is_turned c.state && not (has_any c.work_reports)) _ _
      (λ f. go_back-gentle s l c (own-call n c is) c (leg_of c.back s.legs) refl (λ named. (named, refl))
      (leg-stands p s facts l c.back))
      (λ f. nothing-gentle s l))
      (λ e. nothing-gentle s l)

  pub order-gentle : (c : Command) → IsGentle s l (on_order p s c)
  order-gentle =
      by-order (IsGentle s l) p s (nothing-gentle s l) (λ w. setup-gentle w (find_call w.call s.calls))
      (λ n from. release-gentle from (find_call n s.calls)) (λ n from. protect-gentle n from (find_call n s.calls) refl)
      (λ n from. retry-gentle n from (find_call n s.calls) refl)
      (λ n from. revert-gentle n from (find_call n s.calls) refl)

  -- Messages

  -- the first Path of this LSP
  abbrev IsFirstPath : Msg → Type 0
  IsFirstPath m = (is_plain m ≡ true) × (same_lsp (lsp_of m) l ≡ true) × (find_leg (lsp_of m) s.legs ≡ None)

  own-found : (k : Lsp) (g : Leg) → find_leg k s.legs ≡ Some g → find_leg g.lsp s.legs ≡ Some g
  own-found k g found = subst (λ j. find_leg j s.legs ≡ Some g) (sym (found-lsp k s.legs g found)) found

  no_active-gentle : (m : PathRequest) (o : Option LinkSpec) → is_active m.role ≡ true →
      IsGentle s l (first_path p s m o)
  no_active-gentle m None active = nothing-gentle s l
  no_active-gentle m (Some link) active = rw active (nothing-gentle s l)

  path-gentle : (m : PathRequest) (o : Option Leg) → find_leg m.arrival.lsp s.legs ≡ o →
      (is_active m.role ≡ false → same_lsp m.arrival.lsp l ≡ true → o ≡ None → ⊥) → IsGentle s l (path_with p s m o)
  path-gentle m (Some g) found not_first = again-gentle p s facts l g (own-found m.arrival.lsp g found) m.arrival
      (drop 1 m.route) m.role
  path-gentle m None found not_first = go (same_lsp m.arrival.lsp l) (is_active m.role) refl refl
    where
      go : (x y : Bool) → same_lsp m.arrival.lsp l ≡ x → is_active m.role ≡ y →
          IsGentle s l (first_path p s m (own_link p m.arrival.link))
      go false y e f = first_path-gentle p s facts l m e (own_link p m.arrival.link)
      go true true e f = no_active-gentle m (own_link p m.arrival.link) f
      go true false e f = absurd (not_first f e refl)

  by-leg : (P : Option Leg → Type 0) (k : Lsp) → P None →
      ((g : Leg) → find_leg g.lsp s.legs ≡ Some g → g.lsp ≡ k → P (Some g)) → P (find_leg k s.legs)
  by-leg P k none some = go (find_leg k s.legs) refl
    where
      go : (o : Option Leg) → find_leg k s.legs ≡ o → P o
      go None e = none
      go (Some g) e = some g (own-found k g e) (found-lsp k s.legs g e)

  pub message-gentle : (u : NodeId) (m : Msg) → is_notice_of l m ≡ false → (IsFirstPath m → ⊥) →
      IsGentle s l (on_message p s u m)
  message-gentle u (Path k e link route set up r) other not_first =
      path-gentle (record { arrival = arrival k e u link; route = route; set = set; upstream = up; role = r })
      (find_leg k s.legs) refl
      (λ plain own none. not_first (rw plain refl, own, none))
  message-gentle u (Resv k e link x) other not_first =
      by-leg (λ o. IsGentle s l (resv_with p s (arrival k e u link) x o)) k (nothing-gentle s l)
      (λ g found own. resv-gentle p s facts l g found old (arrival k e u link) x)
  message-gentle u (PathTear k e link) other not_first =
      by-leg (λ o. IsGentle s l (tear_with p (arrival k e u link) o)) k (nothing-gentle s l)
      (λ g found own. tear-gentle p s facts l g found (arrival k e u link))
  message-gentle u (PathErr k e at gone code) other not_first =
      by-leg (λ o. IsGentle s l
      (path_err_with s u (record { lsp = k; msg = PathErr k e at gone code; removed = gone; code = code }) o)) k
      (nothing-gentle s l)
      (λ g found own. err-gentle p s facts l g found u
      (record { lsp = k; msg = PathErr k e at gone code; removed = gone; code = code }) (λ h. (refl, refl)))
  message-gentle u (Notify k e at link code) other not_first =
      by-leg (λ o. IsGentle s l
      (notify_with p s u (record { lsp = k; msg = Notify k e at link code; at = at; link = link; code = code }) o)) k
      (nothing-gentle s l)
      (λ g found own. notify-gentle p s facts l g found (rw own other) u
      (record { lsp = k; msg = Notify k e at link code; at = at; link = link; code = code })
      (λ h. absurd (cc (h, other))))

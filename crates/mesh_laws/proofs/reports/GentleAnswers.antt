-- Answers that tell nothing of the fibres of an LSP's route: of messages, and of the orders of calls.
use Rattle.std.proofs.{Common.{◌≡◌, ◌+◌, drop, Bool, true, false, cond, nat_lt, List, [], ◌∷◌, refl, sym, ◌∙◌, subst, inl, inr}, lemmas.Bool.or_cases}
use Rattle.std.specs.Prelude.{Option, Some, None, is_some}
use Rattle.ason_base.specs.{Lsps.{is_lsp, same_lsp}, Risks.unknown_link, declared.calls.CallState.CallState, declared.calls.CallState.TheVariants.{Asking, Bare, Blocked, Guarded, Pairing, Stuck, Turned, Turning}, Codes.{busy_code, label_code}, declared.calls.Cause.Cause, declared.calls.Cause.TheVariants.{BackDown, Code, Full, NoBackup, Spent}, declared.calls.Phase.Phase, declared.calls.Phase.TheVariants.{Armed, Held, Live}, declared.ids.Lsp.Lsp, declared.messages.PathRole.PathRole, declared.network.LinkSpec.LinkSpec, declared.steps.Step.Step, declared.tables.CallRec.CallRec, declared.tables.Leg.Leg}
use Rattle.mesh_rules.specs.declared.changes.CallChange.TheVariants as call
use Rattle.mesh_rules.specs.declared.changes.LegChange.TheVariants as leg
use Rattle.mesh_rules.specs.{declared.changes.NextNumbers.NextNumbers, declared.limits.TheConstants.LAST_NUMBER, declared.neighbours.Neighbour.Neighbour, Activations.{path_to, taken_on}, Calls.{find_call, guarded, pairing, stuck, turning, unbacked}, Changes.changes_calls, FirstLegs.{NewLsp, asks_for, first_link, is_full, lacks_first_back}, KnownRows.known_rows, Legs.{find_leg, following, is_closing, is_contended, is_held, is_in_use, with_phase}, LocalNodes.LocalNode, Pairs.{backup_lsp, backup_route, beside_lsp, guarding, is_two_way, over_backup, pair, pair_over, route_from}, Paths.is_active, State.NodeState, Turns.{activating, activating_path, arms, call_put, decide, decided, disarms, go_back, has_any, taking_back, taking_path, turn}}
use Rattle.mesh_nodes.proofs.Cases.{if_cases}
use Rattle.lsp_laws.specs.{HopLaw.is_notice, ReportLaw.reports_of}
use Rattle.lsp_laws.proofs.hops.Tables.{leg_after}
use Rattle.mesh_laws.proofs.{reports.GentleWords.{AllMild, CallsKeep, IsGentle, NoneOf, is_plain, is_waiting}, reports.AnswerParts.{RepKeeps, calls-gentle, mild-gentle, put-call, put-leg}}

-- Turning

-- the leg of a call's backup stands, and its Path, sent once more, activates
pub record BackupLegStands (s : NodeState) (b : Leg) : Type 0 where
  pub found : find_leg b.lsp s.legs ≡ Some b
  pub activates : is_held b.phase ≡ true → is_active (activating b.path_role) ≡ true

abbrev pub IfStands : NodeState → Option Leg → Type 0
IfStands s o = (b : Leg) → o ≡ Some b → BackupLegStands s b

held-stands : (b : Leg) → is_held b.phase ≡ true → is_closing b.phase ≡ false
held-stands b = go b.phase
  where
    go : (f : Phase) → is_held f ≡ true → is_closing f ≡ false
    go Held e = refl
    go Armed e = refl
    go Live e = refl
    go _ e = absurd (cc e)

pub used-stands : (f : Phase) → is_in_use f ≡ true → is_closing f ≡ false
used-stands Armed e = refl
used-stands Live e = refl
used-stands _ e = absurd (cc e)

-- a Path that takes back goes out over a leg that is Held afterwards
module _ (l : Lsp) (g : Leg) (route : List Step) (r : PathRole) where
  -- so the leg isn't Asked, or the Path is of another LSP
  pub taken_on-active : (h : Option Neighbour) (o : Option Leg) →
      is_waiting (leg_after l (leg.Put (with_phase Held g) ∷ []) o) ≡ true → NoneOf is_plain l (taken_on g route r h)
  taken_on-active None o waits = tt
  taken_on-active (Some h) o waits = go (same_lsp g.lsp l) refl waits
    where
      go : (b : Bool) → same_lsp g.lsp l ≡ b → is_waiting (cond b (Some (with_phase Held g)) o) ≡ true →
          NoneOf is_plain l (path_to g route r h ∷ [])
      go true e held = absurd (cc held)
      go false e other = ((λ own. absurd (cc (own, e))), tt)

  pub taken_on-quiet : (h : Option Neighbour) → NoneOf is_notice l (taken_on g route r h)
  taken_on-quiet None = tt
  taken_on-quiet (Some h) = ((λ own. refl), tt)

-- the ingress sends it, too
pub taking-is : (b : Leg) (h : Option Neighbour) →
    taken_on b b.route (taking_back b.path_role) h ≡ taking_path b h
taking-is b None = refl
taking-is b (Some h) = refl

module _ (s : NodeState) (l : Lsp) (c : CallRec) (there : find_call c.call s.calls ≡ Some c) where
  pub put-gentle : (d : CallRec) → d.call ≡ c.call → RepKeeps l c d → IsGentle s l (call_put d)
  put-gentle d number keeps = calls-gentle s l (call.Put d ∷ []) (put-call l s.calls c d there number keeps)

  path-mild : (b : Leg) (h : Option Neighbour) → is_active (activating b.path_role) ≡ true →
      AllMild l (activating_path b h)
  path-mild b None activates = tt
  path-mild b (Some h) activates = ((λ own. (refl, rw activates refl)), tt)

  -- the rule read these legs
  pub turn-gentle : (legs : List Leg) (d : CallRec) (o : Option Leg) → d.call ≡ c.call → RepKeeps l c d →
      IfStands s o → IsGentle s l (turn legs d o)
  turn-gentle legs d None number keeps stands = put-gentle d number keeps
  turn-gentle legs d (Some b) number keeps stands =
      if_cases (IsGentle s l) (is_held b.phase) _ _
      (λ held. if_cases (IsGentle s l) (is_contended legs b) _ _
      (λ busy. put-gentle (stuck d (Code busy_code)) number keeps)
      (λ free. mild-gentle s l (arms d b)
      (put-leg l s.legs b (with_phase Armed b) (stands b refl).found refl refl (λ e. held-stands b held))
      (path-mild b (following b) ((stands b refl).activates held)) refl
      (put-call l s.calls c (turning d) there number keeps)))
      (λ other. put-gentle d number keeps)

  -- the leg is Held afterwards
  disarms-gentle : (d : CallRec) (b : Leg) → d.call ≡ c.call → RepKeeps l c d → find_leg b.lsp s.legs ≡ Some b →
      is_closing b.phase ≡ false → IsGentle s l (disarms d b)
  disarms-gentle d b number keeps found stood = record {
    legs = put-leg l s.legs b (with_phase Held b) found refl refl (λ e. stood);
    sent = subst (NoneOf is_notice l) (taking-is b (following b))
        (taken_on-quiet l b b.route (taking_back b.path_role) (following b));
    active = λ waits. subst (NoneOf is_plain l) (taking-is b (following b))
        (taken_on-active l b b.route (taking_back b.path_role) (following b) (find_leg l s.legs) waits);
    down = refl;
    calls = put-call l s.calls c (guarded d) there number keeps;
  }

  pub go_back-gentle : (d : CallRec) (o : Option Leg) → d.call ≡ c.call → RepKeeps l c d → IfStands s o →
      IsGentle s l (go_back d o)
  go_back-gentle d None number keeps stands = put-gentle d number keeps
  go_back-gentle d (Some b) number keeps stands =
      if_cases (IsGentle s l) (is_in_use b.phase) _ _
      (λ used. disarms-gentle d b number keeps (stands b refl).found (used-stands b.phase used))
      (λ idle. put-gentle d number keeps)

  decided-gentle : (legs : List Leg) (d : CallRec) (o : Option Leg) → d.call ≡ c.call → RepKeeps l c d →
      IfStands s o → (state : CallState) (works backs : Bool) → IsGentle s l (decided legs d o state works backs)
  decided-gentle legs d o number keeps stands Guarded true false = turn-gentle legs d o number keeps stands
  decided-gentle legs d o number keeps stands Guarded true true = put-gentle (stuck d BackDown) number keeps
  decided-gentle legs d o number keeps stands Guarded false backs = put-gentle d number keeps
  decided-gentle legs d o number keeps stands Stuck false backs = put-gentle (guarded d) number keeps
  decided-gentle legs d o number keeps stands Stuck true backs = put-gentle d number keeps
  decided-gentle legs d o number keeps stands Asking works backs = put-gentle d number keeps
  decided-gentle legs d o number keeps stands Bare works backs = put-gentle d number keeps
  decided-gentle legs d o number keeps stands Blocked works backs = put-gentle d number keeps
  decided-gentle legs d o number keeps stands Pairing works backs = put-gentle d number keeps
  decided-gentle legs d o number keeps stands Turning works backs = put-gentle d number keeps
  decided-gentle legs d o number keeps stands Turned false true = go_back-gentle d o number keeps stands
  decided-gentle legs d o number keeps stands Turned false false = put-gentle d number keeps
  decided-gentle legs d o number keeps stands Turned true backs = put-gentle d number keeps

  pub decide-gentle : (legs : List Leg) (d : CallRec) (o : Option Leg) → d.call ≡ c.call → RepKeeps l c d →
      IfStands s o → IsGentle s l (decide legs d o)
  decide-gentle legs d o number keeps stands =
      decided-gentle legs d o number keeps stands d.state (has_any d.work_reports) (has_any d.back_reports)

-- A new LSP

pub asks-gentle : (p : LocalNode) (s r : NodeState) (l : Lsp) (w : NewLsp) (c : CallRec) (next : NextNumbers) →
    same_lsp w.lsp l ≡ false → CallsKeep l s.calls (call.Put c ∷ []) → IsGentle s l (asks_for p r w c next)
asks-gentle p s r l w c next apart calls =
    mild-gentle s l (asks_for p r w c next)
    (record { stands = λ h. (rw apart at h); gone = λ none. rw apart none; waits = λ h. (rw apart at h) })
    ((λ own. absurd (cc (own, apart))), tt) refl calls

module _ (p : LocalNode) (s r : NodeState) (l : Lsp) (c : CallRec) (there : find_call c.call s.calls ≡ Some c) where
  work-reports : (d : CallRec) → is_lsp d.work l ≡ true → reports_of l d ≡ d.work_reports
  work-reports d e = rw e refl

  unbacked-keeps : (cause : Cause) → RepKeeps l c (unbacked c cause)
  unbacked-keeps cause named = elim (or_cases (is_lsp c.work l) false named) [
    | inl work ↦ (rw work refl, work-reports (unbacked c cause) work ∙ sym (work-reports c work))
    | inr never ↦ absurd (cc never)
  ]

  pairing-keeps : (k : Lsp) → same_lsp k l ≡ false → RepKeeps l c (pairing c k)
  pairing-keeps k apart named = elim (or_cases (is_lsp c.work l) (same_lsp k l) named) [
    | inl work ↦ (rw work refl, work-reports (pairing c k) work ∙ sym (work-reports c work))
    | inr new ↦ absurd (cc (new, apart))
  ]

  pub leaves-gentle : (cause : Cause) → IsGentle s l (changes_calls (call.Put (unbacked c cause) ∷ []))
  leaves-gentle cause =
      calls-gentle s l (call.Put (unbacked c cause) ∷ [])
      (put-call l s.calls c (unbacked c cause) there refl (unbacked-keeps cause))

  -- the backup would be another LSP
  pub pair-gentle : (w : Leg) → same_lsp (beside_lsp w.lsp r.lsp) l ≡ false → IsGentle s l (pair p r c w)
  pair-gentle w apart =
      if_cases (IsGentle s l) (is_some (unknown_link (known_rows p r) (route_from p w))) _ _
      (λ e. leaves-gentle NoBackup) (λ e. along (backup_route p r c w))
    where
      over : (route : List Step) (o : Option LinkSpec) → IsGentle s l (over_backup p r c w route o)
      over route None = leaves-gentle NoBackup
      over route (Some out) =
          if_cases (IsGentle s l) (nat_lt LAST_NUMBER r.lsp) _ _ (λ e. leaves-gentle Spent)
          (λ e. if_cases (IsGentle s l) (is_full r) _ _ (λ f. leaves-gentle Full)
          (λ f. if_cases (IsGentle s l) (lacks_first_back p r (is_two_way w) (guarding p w) out) _ _
          (λ h. leaves-gentle (Code label_code))
          (λ h. asks-gentle p s r l (backup_lsp p r w out (drop 1 route)) (pairing c (beside_lsp w.lsp r.lsp))
          (record { tunnel = r.tunnel; lsp = r.lsp + 1 }) apart
          (put-call l s.calls c (pairing c (beside_lsp w.lsp r.lsp)) there refl
          (pairing-keeps (beside_lsp w.lsp r.lsp) apart)))))

      along : (o : Option (List Step)) → IsGentle s l (pair_over p r c w o)
      along None = leaves-gentle NoBackup
      along (Some route) = over route (first_link p route)

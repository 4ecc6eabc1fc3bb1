-- A call that is new at its ingress: it names no LSP, and what answers keep of that.
use Rattle.std.proofs.{Common.{◌≡◌, Bool, true, false, cond, nat_eq, nat_lt, List, [], ◌∷◌, refl, sym, ◌∙◌, subst}, lemmas.Bool.or_right}
use Rattle.std.specs.Prelude.{◌||◌, Option, Some, None, is_some}
use Rattle.ason_base.specs.{Lsps.is_lsp, Codes.{busy_code, label_code}, Risks.unknown_link, declared.calls.Cause.Cause, declared.calls.Cause.TheVariants.{Code, Full, NoBackup, Spent}, declared.codes.ErrCode.ErrCode, declared.ids.CallNo.CallNo, declared.ids.Lsp.Lsp, declared.network.LinkSpec.LinkSpec, declared.steps.Step.Step, declared.tables.CallRec.CallRec, declared.tables.Leg.Leg}
use Rattle.ason_base.proofs.Bools.{or-first}
use Rattle.mesh_rules.specs.{declared.changes.CallChange.CallChange, declared.limits.TheConstants.LAST_NUMBER, CallSteps.{call_answered, call_contended, call_refused, call_turned}, Calls.{bare, blocked, call_with, calls_changed, find_call, guarded, is_asking, is_pairing, is_turning, names, pairing, stuck, turned, unbacked}, Changes.Answer, FirstLegs.{first_link, is_full, lacks_first_back}, KnownRows.known_rows, Legs.is_work, LocalNodes.LocalNode, Pairs.{backup_route, beside_lsp, guarding, is_two_way, over_backup, pair, pair_over, route_from}, State.NodeState, Turns.decide}
use Rattle.mesh_rules.specs.declared.changes.CallChange.TheVariants as call
use Rattle.mesh_nodes.specs.Order.{CallsRise}
use Rattle.mesh_nodes.proofs.{CallList.{called-found, find-with_call}, Cases.if_cases}
use Rattle.lsp_laws.specs.ReportLaw.{reports_of}
use Rattle.mesh_laws.proofs.reports.Reported.{decide-puts}

module _ (p : LocalNode) (s : NodeState) (rise : CallsRise s.calls) (l : Lsp)
    (unnamed : (k : CallNo) (c : CallRec) → find_call k s.calls ≡ Some c → names l c ≡ false) where
  -- a call that has the LSP afterwards has no report of it
  abbrev pub AreCallsNew : List CallChange → Type 0
  AreCallsNew cs =
      (k : CallNo) (c : CallRec) → find_call k (calls_changed cs s.calls) ≡ Some c → names l c ≡ true →
      reports_of l c ≡ []

  abbrev pub IsAnswerNew : Answer → Type 0
  IsAnswerNew a = AreCallsNew a.calls

  pub new-none : (changes : List CallChange) → changes ≡ [] → AreCallsNew changes
  new-none changes none k c found named =
      let there : find_call k s.calls ≡ Some c =
      subst (λ cs. find_call k (calls_changed cs s.calls) ≡ Some c) none found in
      let never = unnamed k c there in
      absurd (cc (never, named))

  pub new-put : (changes : List CallChange) (d : CallRec) → changes ≡ call.Put d ∷ [] →
      (names l d ≡ true → reports_of l d ≡ []) → AreCallsNew changes
  new-put changes d is put k c found named =
      go (nat_eq d.call.0 k.0) (sym (find-with_call d s.calls k)
      ∙ subst (λ cs. find_call k (calls_changed cs s.calls) ≡ Some c) is found)
    where
      go : (b : Bool) → cond b (Some d) (find_call k s.calls) ≡ Some c → reports_of l c ≡ []
      go true e =
          let one : d ≡ c = cc e in
          subst (λ x. reports_of l x ≡ []) one (put (subst (λ x. names l x ≡ true) (sym one) named))
      go false e = absurd (let never = unnamed k c e in cc (never, named))

  -- a call of the node becomes a record that names no more
  pub new-from : (changes : List CallChange) (c d : CallRec) → find_call c.call s.calls ≡ Some c →
      changes ≡ call.Put d ∷ [] → (names l d ≡ true → names l c ≡ true) → AreCallsNew changes
  new-from changes c d there is keeps =
      new-put changes d is (λ named. absurd
      (let h = keeps named in let never = unnamed c.call c there in cc (h, never)))

  pub new-decide : (c d : CallRec) (o : Option Leg) → find_call c.call s.calls ≡ Some c → names l d ≡ names l c →
      IsAnswerNew (decide s.legs d o)
  new-decide c d o there same =
      let puts = decide-puts l s.legs d o in
      new-from _ c puts.put there puts.calls (λ named. sym same ∙ sym puts.same_names ∙ named)

  pub called-there : (k : Lsp) (c : CallRec) → call_with k s.calls ≡ Some c → find_call c.call s.calls ≡ Some c
  called-there k c called = called-found k s.calls c rise called

  -- A backup

  leaves-new : (c : CallRec) (cause : Cause) (changes : List CallChange) → find_call c.call s.calls ≡ Some c →
      changes ≡ call.Put (unbacked c cause) ∷ [] → AreCallsNew changes
  leaves-new c cause changes there is =
      new-from changes c (unbacked c cause) there is
      (λ named. rw (or-first (is_lsp c.work l) named) refl)

  pairing-new : (c : CallRec) (k : Lsp) (changes : List CallChange) → find_call c.call s.calls ≡ Some c →
      changes ≡ call.Put (pairing c k) ∷ [] → AreCallsNew changes
  pairing-new c k changes there is = new-put changes (pairing c k) is (λ named. go (is_lsp c.work l) refl)
    where
      first : (a b : Bool) → (a || b) ≡ false → a ≡ false
      first true b e = absurd (cc e)
      first false b e = refl

      go : (b : Bool) → is_lsp c.work l ≡ b → reports_of l (pairing c k) ≡ []
      go true e = absurd (let never = first (is_lsp c.work l) _ (unnamed c.call c there) in cc (never, e))
      go false e = rw e refl

  pub pair-new : (c : CallRec) (w : Leg) → find_call c.call s.calls ≡ Some c → IsAnswerNew (pair p s c w)
  pair-new c w there =
      if_cases IsAnswerNew (is_some (unknown_link (known_rows p s) (route_from p w))) _ _
      (λ e. leaves-new c NoBackup _ there refl) (λ e. along (backup_route p s c w))
    where
      over : (route : List Step) (o : Option LinkSpec) → IsAnswerNew (over_backup p s c w route o)
      over route None = leaves-new c NoBackup _ there refl
      over route (Some out) =
          if_cases IsAnswerNew (nat_lt LAST_NUMBER s.lsp) _ _ (λ e. leaves-new c Spent _ there refl)
          (λ e. if_cases IsAnswerNew (is_full s) _ _ (λ f. leaves-new c Full _ there refl)
          (λ f. if_cases IsAnswerNew (lacks_first_back p s (is_two_way w) (guarding p w) out) _ _
          (λ h. leaves-new c (Code label_code) _ there refl)
          (λ h. pairing-new c (beside_lsp w.lsp s.lsp) _ there refl)))

      along : (o : Option (List Step)) → IsAnswerNew (pair_over p s c w o)
      along None = leaves-new c NoBackup _ there refl
      along (Some route) = over route (first_link p route)

  -- Messages

  pub answered-new : (b : Leg) (o : Option CallRec) →
      ((c : CallRec) → o ≡ Some c → find_call c.call s.calls ≡ Some c) →
      IsAnswerNew (call_answered p s b o)
  answered-new b None there = new-none [] refl
  answered-new b (Some c) there =
      if_cases IsAnswerNew (is_work b.role) _ _
      (λ e. if_cases IsAnswerNew (is_asking c.state) _ _
      (λ f. if_cases IsAnswerNew c.protected _ _ (λ h. pair-new c b (there c refl))
      (λ h. new-from _ c (bare c) (there c refl) refl (λ named. named)))
      (λ f. new-none [] refl))
      (λ e. if_cases IsAnswerNew (is_pairing c.state) _ _ (λ f. new-decide c (guarded c) (Some b) (there c refl) refl)
      (λ f. new-none [] refl))

  pub turned-new : (b : Leg) (o : Option CallRec) → ((c : CallRec) → o ≡ Some c → find_call c.call s.calls ≡ Some c) →
      IsAnswerNew (call_turned s b o)
  turned-new b None there = new-none [] refl
  turned-new b (Some c) there =
      if_cases IsAnswerNew (is_turning c.state) _ _ (λ f. new-decide c (turned c) (Some b) (there c refl) refl)
      (λ f. new-none [] refl)

  pub contended-new : (b : Leg) (o : Option CallRec) →
      ((c : CallRec) → o ≡ Some c → find_call c.call s.calls ≡ Some c) →
      IsAnswerNew (call_contended s b o)
  contended-new b None there = new-none [] refl
  contended-new b (Some c) there =
      if_cases IsAnswerNew (is_turning c.state) _ _
      (λ f. new-decide c (stuck c (Code busy_code)) (Some b) (there c refl) refl) (λ f. new-none [] refl)

  pub refused-new : (code : ErrCode) (g : Leg) (o : Option CallRec) →
      ((c : CallRec) → o ≡ Some c → find_call c.call s.calls ≡ Some c) → IsAnswerNew (call_refused code g o)
  refused-new code g None there = new-none [] refl
  refused-new code g (Some c) there =
      if_cases IsAnswerNew (is_work g.role) _ _
      (λ e. if_cases IsAnswerNew (is_asking c.state) _ _
      (λ f. new-from _ c (blocked c (Code code)) (there c refl) refl (λ named. or_right (is_lsp c.work l) _ named))
      (λ f. new-none [] refl))
      (λ e. if_cases IsAnswerNew (is_pairing c.state) _ _ (λ f. leaves-new c (Code code) _ (there c refl) refl)
      (λ f. new-none [] refl))

-- Legs that stand as they stood, by their phases.
use Rattle.std.proofs.Common.{◌≡◌, Bool, true, false, refl, sym, ap, ◌∙◌, subst}
use Rattle.std.specs.Prelude.{◌||◌, Option, Some, None}
use Rattle.ason_base.specs.{Codes.busy_code, Lsps.{is_lsp, same_lsp}, declared.calls.Cause.Cause, declared.calls.Cause.TheVariants.Code, declared.calls.Phase.Phase, declared.calls.Role.Role, declared.codes.ErrCode.ErrCode, declared.ids.Fibre.Fibre, declared.ids.Lsp.Lsp, declared.messages.PathRole.PathRole, declared.messages.PathRole.TheVariants.{Work, Back}, declared.tables.CallRec.CallRec, declared.tables.Leg.Leg}
use Rattle.ason_base.specs.declared.calls.Role.TheVariants as role
use Rattle.mesh_rules.specs.{CallSteps.{call_answered, call_contended, call_refused, call_turned}, Calls.{bare, blocked, find_call, guarded, is_asking, is_pairing, is_turning, names, stuck, turned}, Legs.{closing_phase, is_armed, is_asked, is_closing, is_held, is_work, leg_of, reserved}, LocalNodes.LocalNode, Paths.{is_active, role_of}, Pairs.beside_lsp, Reports.{call_reported, with_report}, State.NodeState, Turns.activating}
use Rattle.mesh_nodes.proofs.{Cases.if_cases, LegList.same_lsp-refl, Phases.{armed-is, asked-is, held-is, of-closing}}
use Rattle.lsp_laws.specs.ReportLaw.{reports_of}
use Rattle.lsp_laws.proofs.nodes.CallParts.{lsp-is}
use Rattle.mesh_laws.proofs.{reports.GentleWords.IsGentle, reports.AnswerParts.{RepKeeps, nothing-gentle}, reports.GentleAnswers.{BackupLegStands, IfStands, decide-gentle, leaves-gentle, pair-gentle, put-gentle}}

-- Phases

pub asked-stands : (f : Phase) → is_asked f ≡ true → is_closing f ≡ false
asked-stands f e = ap is_closing (asked-is f e)

pub held-stands : (f : Phase) → is_held f ≡ true → is_closing f ≡ false
held-stands f e = ap is_closing (held-is f e)

pub armed-stands : (f : Phase) → is_armed f ≡ true → is_closing f ≡ false
armed-stands f e = ap is_closing (armed-is f e)

-- a torn leg isn't Asked, nor is a leg with its label

pub closing-done : (f : Phase) (r : Role) → is_asked (closing_phase f r) ≡ false
closing-done f r = of-closing (λ q. is_asked q ≡ false) refl refl f r

pub reserved-done : (r : Role) → is_asked (reserved r) ≡ false
reserved-done role.Work = refl
reserved-done role.Back = refl

-- a leg with its label is Held only where it is a backup's
pub reserved-back : (r : Role) → is_held (reserved r) ≡ true → r ≡ role.Back
reserved-back role.Work e = absurd (cc e)
reserved-back role.Back e = refl

-- the Path of a backup's leg, sent once more, activates
pub back-activates : (r : PathRole) → role_of r ≡ role.Back → is_active (activating r) ≡ true
back-activates (Work guard) e = absurd (cc e)
back-activates (Back active work primary) e = refl

-- The calls of a node

module _ (p : LocalNode) (s r : NodeState) (l : Lsp) where
  module _ (b : Leg) (stands : BackupLegStands s b) where
    this-stands : IfStands s (Some b)
    this-stands c is = let one : b ≡ c = cc is in subst (BackupLegStands s) one stands

    pub answered-gentle : same_lsp (beside_lsp b.lsp r.lsp) l ≡ false → (o : Option CallRec) →
        ((c : CallRec) → o ≡ Some c → find_call c.call s.calls ≡ Some c) → IsGentle s l (call_answered p r b o)
    answered-gentle apart None there = nothing-gentle s l
    answered-gentle apart (Some c) there =
        let found = there c refl in
        if_cases (IsGentle s l) (is_work b.role) _ _
        (λ e. if_cases (IsGentle s l) (is_asking c.state) _ _
        (λ f. if_cases (IsGentle s l) c.protected _ _ (λ h. pair-gentle p s r l c found b apart)
        (λ h. put-gentle s l c found (bare c) refl (λ named. (named, refl))))
        (λ f. nothing-gentle s l))
        (λ e. if_cases (IsGentle s l) (is_pairing c.state) _ _
        (λ f. decide-gentle s l c found r.legs (guarded c) (Some b) refl (λ named. (named, refl)) this-stands)
        (λ f. nothing-gentle s l))

    pub turned-gentle : (o : Option CallRec) →
        ((c : CallRec) → o ≡ Some c → find_call c.call s.calls ≡ Some c) → IsGentle s l (call_turned r b o)
    turned-gentle None there = nothing-gentle s l
    turned-gentle (Some c) there =
        if_cases (IsGentle s l) (is_turning c.state) _ _
        (λ f. decide-gentle s l c (there c refl) r.legs (turned c) (Some b) refl (λ named. (named, refl)) this-stands)
        (λ f. nothing-gentle s l)

    pub contended-gentle : (o : Option CallRec) →
        ((c : CallRec) → o ≡ Some c → find_call c.call s.calls ≡ Some c) → IsGentle s l (call_contended r b o)
    contended-gentle None there = nothing-gentle s l
    contended-gentle (Some c) there =
        if_cases (IsGentle s l) (is_turning c.state) _ _
        (λ f. decide-gentle s l c (there c refl) r.legs (stuck c (Code busy_code)) (Some b) refl
        (λ named. (named, refl)) this-stands)
        (λ f. nothing-gentle s l)

  -- a call whose working LSP is gone; its two LSPs aren't one
  blocked-keeps : (c : CallRec) (cause : Cause) → (c.work ≡ Some l → c.back ≡ Some l → ⊥)
      → RepKeeps l c (blocked c cause)
  blocked-keeps c cause two named = go (is_lsp c.work l) refl
    where
      go : (b : Bool) → is_lsp c.work l ≡ b → (names l c ≡ true) × (reports_of l (blocked c cause) ≡ reports_of l c)
      go true e = absurd (two (lsp-is c.work l e) (lsp-is c.back l named))
      go false e = (rw e named, rw e refl)

  pub refused-gentle : (code : ErrCode) (g : Leg) (o : Option CallRec) →
      ((c : CallRec) → o ≡ Some c → find_call c.call s.calls ≡ Some c) →
      ((c : CallRec) → o ≡ Some c → c.work ≡ Some l → c.back ≡ Some l → ⊥) → IsGentle s l (call_refused code g o)
  refused-gentle code g None there two = nothing-gentle s l
  refused-gentle code g (Some c) there two =
      let found = there c refl in
      if_cases (IsGentle s l) (is_work g.role) _ _
      (λ e. if_cases (IsGentle s l) (is_asking c.state) _ _
      (λ f. put-gentle s l c found (blocked c (Code code)) refl (blocked-keeps c (Code code) (two c refl)))
      (λ f. nothing-gentle s l))
      (λ e. if_cases (IsGentle s l) (is_pairing c.state) _ _ (λ f. leaves-gentle p s r l c found (Code code))
      (λ f. nothing-gentle s l))

  -- a report of another LSP
  report-keeps : (c : CallRec) (k : Lsp) (down : Bool) (f : Fibre) → names k c ≡ true → same_lsp k l ≡ false →
      RepKeeps l c (with_report c k down f)
  report-keeps c k down f called apart = go (is_lsp c.work k) refl
    where
      other : is_lsp c.work k ≡ true → is_lsp c.work l ≡ false
      other e = subst (λ o. is_lsp o l ≡ false) (sym (lsp-is c.work k e)) apart

      backs : (a b : Bool) → is_lsp c.work k ≡ false → is_lsp c.back k ≡ a → is_lsp c.back l ≡ b → b ≡ true → ⊥
      backs true true e x y z =
          let one : Some k ≡ Some l = sym (lsp-is c.back k x) ∙ lsp-is c.back l y in
          let same : same_lsp k l ≡ true =
          subst (λ o. is_lsp o l ≡ true) (sym one) (same_lsp-refl l) in
          cc (same, apart)
      backs false true e x y z = (let never = rw (e, x) at called in cc never)
      backs a false e x y z = cc z

      go : (b : Bool) → is_lsp c.work k ≡ b → RepKeeps l c (with_report c k down f)
      go true e named =
          let far = other e in
          let h : (is_lsp c.work l || is_lsp c.back l) ≡ true = (rw e at named) in
          (h, rw (e, far) refl)
      go false e named = (h, at_work (is_lsp c.work l) refl)
        where
          h : (is_lsp c.work l || is_lsp c.back l) ≡ true
          h = rw e at named

          at_work : (w : Bool) → is_lsp c.work l ≡ w → reports_of l (with_report c k down f) ≡ reports_of l c
          at_work true x = rw (e, x) refl
          at_work false x =
              absurd (backs (is_lsp c.back k) (is_lsp c.back l) e refl refl (rw x at h))

  pub reported-gentle : (k : Lsp) (down : Bool) (f : Fibre) (o : Option CallRec) →
      ((c : CallRec) → o ≡ Some c → find_call c.call s.calls ≡ Some c) →
      ((c : CallRec) → o ≡ Some c → names k c ≡ true) →
      ((c : CallRec) → o ≡ Some c → IfStands s (leg_of c.back s.legs)) → same_lsp k l ≡ false →
      IsGentle s l (call_reported s k down f o)
  reported-gentle k down f None there called stands apart = nothing-gentle s l
  reported-gentle k down f (Some c) there called stands apart =
      decide-gentle s l c (there c refl) s.legs (with_report c k down f) (leg_of c.back s.legs)
      (same-call (is_lsp c.work k))
      (report-keeps c k down f (called c refl) apart) (stands c refl)
    where
      same-call : (b : Bool) → (with_report c k down f).call ≡ c.call
      same-call b = go (is_lsp c.work k) refl
        where
          go : (x : Bool) → is_lsp c.work k ≡ x → (with_report c k down f).call ≡ c.call
          go true e = rw e refl
          go false e = rw e refl

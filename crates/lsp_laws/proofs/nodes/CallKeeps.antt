-- A call changes together with its leg at the ingress, when the Resv or the PathErr comes.
use Rattle.std.proofs.Common.{◌≡◌, ℕ, Bool, true, false, List, refl, sym, ap, subst, arith, inl, inr}
use Rattle.std.specs.Prelude.{Option, Some, None, IfSome}
use Rattle.ason_base.specs.{declared.ids.Lsp.Lsp, declared.ids.NodeId.NodeId, declared.calls.CallState.TheVariants.{Asking, Pairing}, declared.calls.Cause.Cause, declared.calls.Phase.TheVariants.{Asked, Live}, declared.calls.Role.Role, declared.calls.Role.TheVariants.{Work, Back}, declared.tables.CallRec.CallRec, declared.tables.Leg.Leg, Lsps.same_lsp}
use Rattle.mesh_rules.specs.{Legs.{find_leg, is_closing, is_work, connected, reserved, with_leg, without_leg, leg_of}, Calls.{find_call, call_with, bare, blocked, names, unbacked, with_call}, State.NodeState, Turns.has_any}
use Rattle.mesh_nodes.proofs.{LegList.{same_lsp-eq, same_lsp-refl, find-with_leg, find-without_leg}, CallList.{called-found, called-names, not_called}}
use Rattle.lsp_laws.specs.CallLaw.{FitsLegs, IsNamed, fits_reports, phase_of}
use Rattle.lsp_laws.proofs.{nodes.CallTouched.touched-changes, nodes.Facts.NodeFacts, nodes.CallParts.{LegBecomes, CallPart, leg_of-stays, named-by, named-stays, names-back, names-work, other-stays}, nodes.Parts.{back-row, work-row}, nodes.States.{Row, asked-back, asked-work}, hops.NamedPhases.named_is}

-- a leg that isn't torn has a call at its ingress
pub must_have_call : (n : ℕ) (s : NodeState) (g : Leg) → NodeFacts n s → find_leg g.lsp s.legs ≡ Some g →
    is_closing g.phase ≡ false → g.lsp.ingress.0 ≡ n → call_with g.lsp s.calls ≡ None → ⊥
must_have_call n s g facts here standing ingress none =
    let has = facts.has_call g.lsp g here ingress standing in
    not_called g.lsp s.calls has.call.call has.call none has.found has.named

-- an LSP that a call names has a leg, so where no leg is found it names none
pub no_leg : (n next : ℕ) (legs : List Leg) (r : Role) (e : NodeId) (o : Option Lsp) →
    IfSome o (IsNamed n next legs r e) → phase_of (leg_of o legs) ≡ None → o ≡ None
no_leg n next legs r e None named none = refl
no_leg n next legs r e (Some l) named none =
    let found : find_leg l legs ≡ Some named.leg.0 = named.leg.1 in
    let some : phase_of (find_leg l legs) ≡ Some named.leg.0.phase = ap phase_of found in
    absurd (cc (none, some))

-- the leg of an LSP that is named has its role and its egress
pub named-leg : (n next : ℕ) (legs : List Leg) (r : Role) (e : NodeId) (l : Lsp) (g : Leg) → IsNamed n next legs r e l →
    find_leg l legs ≡ Some g → (g.role ≡ r) × (g.egress ≡ e)
named-leg n next legs r e l g named found =
    let there : find_leg l legs ≡ Some named.leg.0 = named.leg.1 in
    let one : named.leg.0 ≡ g = cc (there, found) in
    (subst (λ x. x.role ≡ r) one named.leg.2, subst (λ x. x.egress ≡ e) one named.leg.3)

pub work-is : (r : Role) → is_work r ≡ true → r ≡ Work
work-is Work e = refl
work-is Back e = absurd (cc e)

pub back-is : (r : Role) → is_work r ≡ false → r ≡ Back
back-is Work e = absurd (cc e)
back-is Back e = refl

-- The call of a leg that begins here

module _ (n : ℕ) (s : NodeState) (facts : NodeFacts n s) (g : Leg) (here : find_leg g.lsp s.legs ≡ Some g) (c : CallRec)
    (called : call_with g.lsp s.calls ≡ Some c) where
  pub call-found : find_call c.call s.calls ≡ Some c
  call-found = called-found g.lsp s.calls c facts.calls_rise called

  fit : FitsLegs n s.lsp s.legs c
  fit = facts.call c.call c call-found

  named : names g.lsp c ≡ true
  named = called-names g.lsp s.calls c called

  -- by its role a leg is the working one or the backup's
  pub is-working : is_work g.role ≡ true → c.work ≡ Some g.lsp
  is-working e = elim (named-by c g.lsp named) [
    | inl work ↦ work
    | inr back ↦
        (let role : g.role ≡ Back = (named-leg n s.lsp s.legs Back c.egress g.lsp g
        (named_is n s.lsp s.legs Back c.egress c.back g.lsp fit.back back) here).0 in
        let no : is_work g.role ≡ false = ap is_work role in
        absurd (cc (e, no)))
  ]

  pub is-backup : is_work g.role ≡ false → c.back ≡ Some g.lsp
  is-backup e = elim (named-by c g.lsp named) [
    | inl work ↦
        (let role : g.role ≡ Work = (named-leg n s.lsp s.legs Work c.egress g.lsp g
        (named_is n s.lsp s.legs Work c.egress c.work g.lsp fit.work work) here).0 in
        let no : is_work g.role ≡ true = ap is_work role in
        absurd (cc (e, no)))
    | inr back ↦ back
  ]

  -- its leg becomes o, and the call becomes d
  call-changes : (d : CallRec) (o : Option Leg) (legs' : List Leg) → LegBecomes g.lsp o s.legs legs' → d.call ≡ c.call →
      FitsLegs n s.lsp legs' d → ((x : Lsp) → names x d ≡ true → names x c ≡ true) →
      ((x : Lsp) → names x c ≡ true → same_lsp g.lsp x ≡ false → names x d ≡ true) →
      ((h : Leg) → o ≡ Some h → names g.lsp d ≡ true) → CallPart n s.lsp legs' (with_call d s.calls)
  call-changes = touched-changes n s facts c call-found g.lsp named

  asked-row : is_work g.role ≡ true → g.phase ≡ Asked → Row c.state (Some Asked) (phase_of (leg_of c.back s.legs))
  asked-row e asked =
      subst (λ f. Row c.state (Some f) (phase_of (leg_of c.back s.legs))) asked
      (work-row n s.lsp s.legs c g.lsp g fit (is-working e) here)

  -- where the working leg is Asked there is no backup
  alone : is_work g.role ≡ true → g.phase ≡ Asked → c.back ≡ None
  alone e asked = no_leg n s.lsp s.legs Back c.egress c.back fit.back (asked-work c.state _ (asked-row e asked)).1

  pub is-asking : is_work g.role ≡ true → g.phase ≡ Asked → c.state ≡ Asking
  is-asking e asked = (asked-work c.state _ (asked-row e asked)).0

  -- where the backup's leg is Asked the call waits for it, and the working leg is Live
  waits : is_work g.role ≡ false → g.phase ≡ Asked →
      (c.state ≡ Pairing) × (phase_of (leg_of c.work s.legs) ≡ Some Live)
  waits e asked =
      asked-back c.state _ (subst (λ f. Row c.state (phase_of (leg_of c.work s.legs)) (Some f)) asked
      (back-row n s.lsp s.legs c g.lsp g fit (is-backup e) here))

  pub is-pairing : is_work g.role ≡ false → g.phase ≡ Asked → c.state ≡ Pairing
  is-pairing e asked = (waits e asked).0

  -- beside a backup's leg the working leg stays as it is
  work-stays : is_work g.role ≡ false → (o : Option Leg) (legs' : List Leg) → LegBecomes g.lsp o s.legs legs' →
      (m : Lsp) → c.work ≡ Some m → find_leg m legs' ≡ find_leg m s.legs
  work-stays e o legs' becomes m work = other-stays g.lsp m o s.legs legs' becomes (go (same_lsp g.lsp m) refl)
    where
      go : (b : Bool) → same_lsp g.lsp m ≡ b → b ≡ false
      go false t = refl
      go true t =
          let name = named_is n s.lsp s.legs Work c.egress c.work m fit.work work in
          let found : find_leg m s.legs ≡ Some g =
          subst (λ k. find_leg k s.legs ≡ Some g) (same_lsp-eq g.lsp m t) here in
          let no : is_work g.role ≡ true = ap is_work (named-leg n s.lsp s.legs Work c.egress m g name found).0 in
          absurd (cc (no, e))

  -- The Resv came

  module _ (x : ℕ) where
    abbrev pub legs' : List Leg
    legs' = with_leg (connected g None x) s.legs

    becomes : LegBecomes g.lsp (Some (connected g None x)) s.legs legs'
    becomes = find-with_leg (connected g None x) s.legs

    pub connected-found : find_leg g.lsp legs' ≡ Some (connected g None x)
    connected-found = rw (becomes g.lsp, same_lsp-refl g.lsp) refl

    -- the LSP whose leg is connected stays named
    named-still : (r : Role) → IsNamed n s.lsp s.legs r c.egress g.lsp → IsNamed n s.lsp legs' r c.egress g.lsp
    named-still r name =
        let is = named-leg n s.lsp s.legs r c.egress g.lsp g name here in
        record {
          ingress = name.ingress;
          number = name.number;
          leg = (connected g None x, connected-found, is.0, is.1);
        }

    -- of a working LSP: its call is bare
    bare-fits : is_work g.role ≡ true → g.phase ≡ Asked → FitsLegs n s.lsp legs' (bare c)
    bare-fits e asked =
        let work = is-working e in
        let alone : c.back ≡ None = alone e asked in
        let found = connected-found in
        let role : reserved g.role ≡ Live = ap reserved (work-is g.role e) in
        record {
          state = rw (work, alone, found, role) refl;
          work = subst (λ o. IfSome o (IsNamed n s.lsp legs' Work c.egress)) (sym work)
              (named-still Work (named_is n s.lsp s.legs Work c.egress c.work g.lsp fit.work work));
          back = subst (λ o. IfSome o (IsNamed n s.lsp legs' Back c.egress)) (sym alone) tt;
          guards = λ w b h is_work is_back found. absurd (cc (alone, is_back));
          ways = λ w b k h is_work is_back at_w at_b. absurd (cc (alone, is_back));
          reports = subst (λ state. fits_reports state (has_any c.work_reports) (has_any c.back_reports) ≡ true)
              (is-asking e asked) fit.reports;
        }

    pub call-bare : is_work g.role ≡ true → g.phase ≡ Asked → CallPart n s.lsp legs' (with_call (bare c) s.calls)
    call-bare e asked =
        call-changes (bare c) (Some (connected g None x)) legs' becomes refl (bare-fits e asked)
        (λ y has. has) (λ y has never. has) (λ h is. named)

  -- The PathErr came

  module _ (cause : Cause) where
    abbrev pub legs_left : List Leg
    legs_left = without_leg g.lsp s.legs

    gone : LegBecomes g.lsp None s.legs legs_left
    gone = find-without_leg g.lsp s.legs

    same-lsp : (o : Option Lsp) (y : Lsp) → o ≡ Some g.lsp → o ≡ Some y → same_lsp g.lsp y ≡ false → ⊥
    same-lsp o y mine is never =
        let one : g.lsp ≡ y = cc (mine, is) in
        let same : same_lsp g.lsp y ≡ true = subst (λ k. same_lsp g.lsp k ≡ true) one (same_lsp-refl g.lsp) in
        cc (same, never)

    -- of a working LSP: its call is blocked
    pub call-blocked : is_work g.role ≡ true → g.phase ≡ Asked →
        CallPart n s.lsp legs_left (with_call (blocked c cause) s.calls)
    call-blocked e asked =
        let none = alone e asked in
        call-changes (blocked c cause) None legs_left gone refl
        (record {
          state = rw none refl;
          work = tt;
          back = subst (λ o. IfSome o (IsNamed n s.lsp legs_left Back c.egress)) (sym none) tt;
          guards = λ w b h is_work is_back found. absurd (cc is_work);
          ways = λ w b k h is_work is_back at_w at_b. absurd (cc is_work);
          reports = subst (λ state. fits_reports state (has_any c.work_reports) (has_any c.back_reports) ≡ true)
              (is-asking e asked) fit.reports;
        })
        (λ y has. elim (named-by (blocked c cause) y has) [
          | inl work ↦ absurd (cc work)
          | inr back ↦ names-back c y back
        ])
        (λ y has never. elim (named-by c y has) [
          | inl work ↦ absurd (same-lsp c.work y (is-working e) work never)
          | inr back ↦ names-back (blocked c cause) y back
        ])
        (λ h is. absurd (cc is))

    -- of a backup: its call is bare
    pub call-unbacked : is_work g.role ≡ false → g.phase ≡ Asked →
        CallPart n s.lsp legs_left (with_call (unbacked c cause) s.calls)
    call-unbacked e asked =
        let stays = work-stays e None legs_left gone in
        let first = leg_of-stays c.work s.legs legs_left stays in
        let standing = (waits e asked).1 in
        call-changes (unbacked c cause) None legs_left gone refl
        (record {
          state = rw (first, standing) refl;
          work = named-stays n s.lsp s.lsp Work c.egress c.work s.legs legs_left (omega arith) stays fit.work;
          back = tt;
          guards = λ w b h is_work is_back found. absurd (cc is_back);
          ways = λ w b k h is_work is_back at_w at_b. absurd (cc is_back);
          reports = refl;
        })
        (λ y has. elim (named-by (unbacked c cause) y has) [
          | inl work ↦ names-work c y work
          | inr back ↦ absurd (cc back)
        ])
        (λ y has never. elim (named-by c y has) [
          | inl work ↦ names-work (unbacked c cause) y work
          | inr back ↦ absurd (same-lsp c.back y (is-backup e) back never)
        ])
        (λ h is. absurd (cc is))

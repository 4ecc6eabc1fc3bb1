-- What the call's part of a message costs at the ingress: of a Resv, of a PathErr and of a Notify.
use Rattle.std.proofs.Common.{◌≡◌, ◌<◌, ℕ, suc, ◌+◌, Bool, true, false, List, [], ◌∷◌, refl, sym, ap, ◌∙◌, subst, arith, not}
use Rattle.std.specs.Prelude.{Option, Some, None, ◌&&◌}
use Rattle.mesh_rules.specs.{declared.limits.TheConstants.MOST_LINKS_OF_ROUTE, declared.neighbours.Neighbour.Neighbour, ActivationAnswers.is_confirmed, Calls.call_with, CallSteps.{call_answered, call_contended, call_refused, call_turned}, Changes.{Answer, nothing, puts}, Legs.{connected, following, is_armed, is_asked, is_node, is_work, previous, with_phase, is_closing, leg_of}, LocalNodes.{LocalNode, local_node}, Machine.{Mesh, without_first}, Messages.arrival, PathErrs.PathFailure, Resvs.is_expected, State.NodeState, Notifies.Notice, Pairs.route_from, Reports.{call_reported, fibre_into, reported, reported_on, with_report}}
use Rattle.ason_base.specs.{Network.Network, declared.ids.LinkId.LinkId, declared.ids.Lsp.Lsp, declared.ids.NodeId.NodeId, declared.calls.Phase.TheVariants.{Armed, Asked, Live, Held}, declared.calls.Role.Role, declared.messages.Msg.Msg, declared.messages.Msg.TheVariants.{Resv, Notify}, declared.tables.Leg.Leg, declared.codes.ErrCode.ErrCode, declared.ids.Fibre.Fibre, declared.tables.CallRec.CallRec}
use Rattle.ason_base.specs.declared.calls.Role.TheVariants as role
use Rattle.ason_base.proofs.Bools.{and-left}
use Rattle.mesh_nodes.specs.Routes.{AreRowsOf}
use Rattle.mesh_nodes.proofs.{Cases.if_cases, LegList.{found-lsp, same_lsp-refl}, Phases.{armed-is, asked-is}}
use Rattle.lsp_laws.specs.HopLaw.{is_notice, leg_at}
use Rattle.lsp_laws.proofs.{hops.InParts.{at_ingress, call_of_err, call_of_failure, call_of_resv, leg_part, call_of_notice, leg_of_notice, notice_here}, hops.NoticeRule.notice_only, hops.Paired.{CallsMayPair, armed_backup, no_previous}, hops.Planned.{EachFollows, next_same}, hops.Own.own-leg_part, hops.Tables.leg_after, hops.TakenSteps.{CallsBackHere, after_leg}, hops.Traced.{leg_follows, reported_backs, resv-confirms, resv-connects}, hops.Views.leg-here}
use Rattle.mesh_laws.specs.Weights.{FirstRoutes, hops_back, phase_weight, weight, pair_most, turn_most, way}
use Rattle.mesh_laws.proofs.{rest.CallRests.{answered-expand, contended-expand, none-expand, refused-expand, turned-expand, decide-expand}, rest.Committed.sent_weight, rest.Expanded.Expands, rest.TurnRests.AreShort, rest.CallLess.{CallLess, less-free, leg_sends}}

-- a Resv to an Asked leg outweighs what its call may send
asked-work : (g : Leg) (k : ℕ) → g.phase ≡ Asked → is_work g.role ≡ true →
    pair_most < phase_weight g.phase g.role (suc k)
asked-work g k asked works = rw asked (go g.role works)
  where
    go : (r : Role) → is_work r ≡ true → pair_most < phase_weight Asked r (suc k)
    go role.Work e = omega arith
    go role.Back e = absurd (cc e)

asked-back : (g : Leg) (k : ℕ) → g.phase ≡ Asked → turn_most < phase_weight g.phase g.role (suc k)
asked-back g k asked = rw asked (go g.role)
  where
    go : (r : Role) → turn_most < phase_weight Asked r (suc k)
    go role.Work = omega arith
    go role.Back = omega arith

module _ (t : Network) (s : Mesh) (o : FirstRoutes) (d u : NodeId) (m : Msg) (rest : List Msg)
    (was : s.mail u.0 d.0 ≡ m ∷ rest) (learnt : AreRowsOf t (s.nodes d.0).learnt) (f : EachFollows t s o)
    (may : CallsMayPair t s o) (backs : CallsBackHere s) (short : AreShort o)
    (pays : leg_sends t s o d u m < weight o s u.0 d.0 m) where
  abbrev place : LocalNode
  place = local_node t d

  abbrev state : NodeState
  state = s.nodes d.0

  then-follows : EachFollows t (after_leg t s d u m) o
  then-follows = leg_follows t s o d u m rest was learnt f may backs

  -- the leg's part gives out no number
  numbers : (leg_part (local_node t d) (s.nodes d.0) u m).numbers ≡ None
  numbers = go (is_notice m) refl
    where
      go : (b : Bool) → is_notice m ≡ b → (leg_part (local_node t d) (s.nodes d.0) u m).numbers ≡ None
      go true notice = (notice_only (local_node t d) (s.nodes d.0) u m notice).numbers
      go false plain = (own-leg_part (local_node t d) (s.nodes d.0) u m plain).numbers

  abbrev Less : Answer → Type 0
  Less = CallLess t s o d u m

  quiet : Less nothing
  quiet = less-free t s o d u m pays nothing (none-expand t (after_leg t s d u m) d o then-follows short 0)

  -- where the leg's part sends nothing
  silent : (g : Leg) → leg_part (local_node t d) (s.nodes d.0) u m ≡ puts g [] →
      leg_sends t s o d u m ≡ 0
  silent g is = ap (λ (a : Answer). sent_weight (weight o (after_leg t s d u m) d.0) a.sent) is

  placed : (g : Leg) → leg_part (local_node t d) (s.nodes d.0) u m ≡ puts g [] →
      leg_at (after_leg t s d u m) g.lsp d ≡ Some g
  placed g is =
      leg-here (without_first s u.0 d.0) d g.lsp (leg_part (local_node t d) (s.nodes d.0) u m) ∙
      ap (λ (a : Answer). leg_after g.lsp a.legs (leg_at s g.lsp d)) is ∙ rw (same_lsp-refl g.lsp) refl

  module _ (l : Lsp) (g : Leg) (here : leg_at s l d ≡ Some g) where
    stands : leg_at s g.lsp d ≡ Some g
    stands = subst (λ (k : Lsp). leg_at s k d ≡ Some g) (sym (found-lsp l (s.nodes d.0).legs g here)) here

    begins : previous g ≡ None → g.lsp.ingress ≡ d
    begins first = no_previous t s o g.lsp d g (o g.lsp) (f g.lsp) stands first

    -- an Asked leg has its label
    answered : (x : ℕ) (h : Option Neighbour) → previous g ≡ h → g.phase ≡ Asked →
        weight o s u.0 d.0 m ≡ phase_weight g.phase g.role (suc (hops_back o l d.0)) →
        (previous g ≡ None → leg_part (local_node t d) (s.nodes d.0) u m ≡ puts (connected g None x) []) →
        Less (at_ingress h (call_answered place state (connected g None x) (call_with g.lsp state.calls)))
    answered x (Some h) first asked weighs is = quiet
    answered x None first asked weighs is =
        let zero = silent (connected g None x) (is first) in
        let both = answered-expand t (after_leg t s d u m) d o then-follows short state
        (same-number) (connected g None x) (begins first) (placed (connected g None x) (is first))
        (call_with g.lsp state.calls) in
        by_role (is_work g.role) refl zero both
      where
        same-number : (s.nodes d.0).lsp ≡ ((after_leg t s d u m).nodes d.0).lsp
        same-number = sym (next_same (without_first s u.0 d.0) d.0 d.0
            (leg_part (local_node t d) (s.nodes d.0) u m) numbers)

        by_role : (b : Bool) → is_work g.role ≡ b →
            leg_sends t s o d u m ≡ 0 →
            (is_work g.role ≡ true → Expands (after_leg t s d u m) d o pair_most
            (call_answered place state (connected g None x) (call_with g.lsp state.calls))) ×
            (is_work g.role ≡ false → Expands (after_leg t s d u m) d o turn_most
            (call_answered place state (connected g None x) (call_with g.lsp state.calls))) →
            Less (call_answered place state (connected g None x) (call_with g.lsp state.calls))
        by_role true e zero both = record {
          more = pair_most;
          expands = both.0 e;
          less = (let heavy = asked-work g (hops_back o l d.0) asked e in omega (arith, zero, weighs, heavy));
        }
        by_role false e zero both = record {
          more = turn_most;
          expands = both.1 e;
          less = (let heavy = asked-back g (hops_back o l d.0) asked in omega (arith, zero, weighs, heavy));
        }

    -- an Armed leg is Live
    turned : (h : Option Neighbour) → previous g ≡ h → g.phase ≡ Armed →
        weight o s u.0 d.0 m ≡ phase_weight g.phase g.role (suc (hops_back o l d.0)) →
        (previous g ≡ None → leg_part (local_node t d) (s.nodes d.0) u m ≡ puts (with_phase Live g) []) →
        Less (at_ingress h (call_turned state (with_phase Live g) (call_with g.lsp state.calls)))
    turned (Some h) first armed weighs is = quiet
    turned None first armed weighs is =
        let zero = silent (with_phase Live g) (is first) in
        let heavy : phase_weight g.phase g.role (suc (hops_back o l d.0)) ≡ suc (hops_back o l d.0) + way =
        rw armed refl in
        record {
          more = MOST_LINKS_OF_ROUTE;
          expands = turned-expand t (after_leg t s d u m) d o then-follows short state (with_phase Live g)
              (record {
                begins = record {
                  there = placed (with_phase Live g) (is first);
                  ingress = ap (λ (n : NodeId). n.0) (begins first);
                };
                turned = λ _. record {
                  role = armed_backup t s o g.lsp d g (o g.lsp) (f g.lsp) stands armed;
                  live = refl;
                };
              }) (call_with g.lsp state.calls);
          less = omega (arith, zero, weighs, heavy);
        }

    failed : (failure : PathFailure) → Less (call_of_failure state g failure)
    failed failure =
        if_cases Less failure.removed _ _
        (λ r. if_cases Less (is_asked g.phase) _ _ (λ e. refuses (previous g)) (λ e. quiet))
        (λ r. if_cases Less (is_armed g.phase) _ _ (λ e. contends (previous g)) (λ e. quiet))
      where
        refuses : (h : Option Neighbour) →
            Less (at_ingress h (call_refused failure.code g (call_with g.lsp state.calls)))
        refuses (Some h) = quiet
        refuses None = less-free t s o d u m pays _
            (refused-expand t (after_leg t s d u m) d o then-follows short failure.code g
            (call_with g.lsp state.calls))

        contends : (h : Option Neighbour) →
            Less (at_ingress h (call_contended state (with_phase Held g) (call_with g.lsp state.calls)))
        contends (Some h) = quiet
        contends None = less-free t s o d u m pays _ (contended-expand t (after_leg t s d u m) d o then-follows short
            state (with_phase Held g) (call_with g.lsp state.calls))

  -- A Resv: the call is answered where its Asked leg is connected, and goes on where its Armed leg is Live.
  pub resv_call : (l : Lsp) (e : NodeId) (k : LinkId) (x : ℕ) → m ≡ Resv l e k x → (h : Option Leg) →
      leg_at s l d ≡ h →
      Less (call_of_resv place state (arrival l e u k) x h)
  resv_call l e k x is None here = quiet
  resv_call l e k x is (Some g) here =
      if_cases Less (is_expected (arrival l e u k) x g) _ _
      (λ expected. answered l g here x (previous g) refl
      (asked-is g.phase (and-left (is_asked g.phase) _ expected)) weighs
      (λ first. resv-connects place state u m l e k x g is here expected first))
      (λ other. if_cases Less (is_confirmed (arrival l e u k) x g) _ _
      (λ c. turned l g here (previous g) refl (armed-is g.phase (and-left (is_armed g.phase) _ c)) weighs
      (λ first. resv-confirms place state u m l e k x g is here other c first))
      (λ c. quiet))
    where
      weighs : weight o s u.0 d.0 m ≡ phase_weight g.phase g.role (suc (hops_back o l d.0))
      weighs = ap (weight o s u.0 d.0) is ∙ rw here refl

  -- A PathErr: the call is refused, or its backup is contended.
  pub err_call : (l : Lsp) (failure : PathFailure) (h : Option Leg) → leg_at s l d ≡ h →
      Less (call_of_err state u failure h)
  err_call l failure None here = quiet
  err_call l failure (Some g) here =
      if_cases Less (is_node (following g) u) _ _ (λ e. failed l g here failure) (λ e. quiet)

  -- What a Notify has its call do

  module _ (l : Lsp) (e names : NodeId) (k : LinkId) (code : ErrCode) (is : m ≡ Notify l e names k code) where
    notice : is_notice m ≡ true
    notice = rw is refl

    reported_call : (j : Lsp) (down : Bool) (fibre : Fibre) (called : Option CallRec) →
        call_with j state.calls ≡ called →
        Expands (after_leg t s d u m) d o turn_most (call_reported state j down fibre called)
    reported_call j down fibre None here = none-expand t (after_leg t s d u m) d o then-follows short turn_most
    reported_call j down fibre (Some c) here =
        decide-expand t (after_leg t s d u m) d o then-follows short state.legs (with_report c j down fibre)
        (leg_of c.back state.legs) (reported_backs t s o d u m rest was learnt f may backs notice j down fibre c here)

    reported_here : (g : Leg) (down : Bool) (fibre : Option Fibre) →
        Expands (after_leg t s d u m) d o turn_most (reported_on state g down fibre)
    reported_here g down None = none-expand t (after_leg t s d u m) d o then-follows short turn_most
    reported_here g down (Some fibre) = reported_call g.lsp down fibre (call_with g.lsp state.calls) refl

    abbrev note : Notice
    note = record { lsp = l; msg = Notify l e names k code; at = names; link = k; code = code }

    -- A Notify: the call is reported, and may turn or go back.
    pub notice_call : (h : Option Leg) → leg_at s l d ≡ h → Less (call_of_notice place state u note h)
    notice_call None here = quiet
    notice_call (Some g) here =
        if_cases Less (not (is_closing g.phase) && is_node (following g) u) _ _
        (λ taken. told (reported code) (previous g) refl refl taken) (λ e. quiet)
      where
        told : (r : Option Bool) (h : Option Neighbour) → reported code ≡ r → previous g ≡ h →
            (not (is_closing g.phase) && is_node (following g) u) ≡ true →
            Less (notice_here place state note g (reported code))
        told None h says first taken = rw says quiet
        told (Some down) (Some h) says first taken = rw (says, first) quiet
        told (Some down) None says first taken =
            rw (says, first) (record {
              more = turn_most;
              expands = reported_here g down (fibre_into (route_from place g) g.egress names k);
              less = (let heavy = weighs in let zero = none says first taken in omega (arith, heavy, zero));
            })
          where
            weighs : weight o s u.0 d.0 m ≡ suc (hops_back o l d.0) + suc turn_most
            weighs = ap (weight o s u.0 d.0) is

            silently : reported code ≡ Some down → previous g ≡ None →
                (not (is_closing g.phase) && is_node (following g) u) ≡ true →
                leg_part (local_node t d) (s.nodes d.0) u m ≡ nothing
            silently says first taken =
                ap (leg_part (local_node t d) (s.nodes d.0) u) is ∙
                ap (leg_of_notice u note) here ∙ rw (taken, says, first) refl

            none : reported code ≡ Some down → previous g ≡ None →
                (not (is_closing g.phase) && is_node (following g) u) ≡ true →
                leg_sends t s o d u m ≡ 0
            none says first taken =
                ap (λ (a : Answer). sent_weight (weight o (after_leg t s d u m) d.0) a.sent)
                (silently says first taken)

-- A Path that activates a backup, one that takes that back, and the answers to them keep the facts of a node.
use Rattle.std.proofs.{Common.{◌≡◌, ℕ, true, false, not, nat_eq, [], refl, sym, ap, subst, arith, List, drop}, lemmas.Bool.not-true}
use Rattle.std.specs.Prelude.{◌&&◌, Option, Some, None}
use Rattle.ason_base.specs.{Codes.busy_code, declared.calls.CallState.CallState, declared.calls.Cause.Cause, declared.calls.Cause.TheVariants.{Code, Unset}, declared.calls.CallState.TheVariants.{Stuck, Turned}, declared.calls.Phase.Phase, declared.calls.Phase.TheVariants.{Armed, Held, Live}, declared.calls.Role.TheVariants.Back, declared.messages.Msg.Msg, declared.messages.PathRole.PathRole, declared.tables.CallRec.CallRec, declared.tables.Leg.Leg, declared.steps.Step.Step}
use Rattle.ason_base.specs.declared.messages.PathRole.TheVariants as path
use Rattle.ason_base.proofs.Bools.{and-left, and-right}
use Rattle.mesh_rules.specs.{declared.arrivals.Arrival.Arrival, declared.neighbours.Neighbour.Neighbour, ActivationAnswers.{confirmed, contended, disarmed, is_confirmed, resv_again}, Activations.{armed_on, path_again}, CallSteps.{call_contended, call_turned}, Calls.{call_with, find_call, is_turning}, Changes.{Answer, changed, followed_by, puts}, Legs.{find_leg, following, is_active_backup, is_armed, is_beyond_asked, is_closing, is_contended, is_held, is_over, is_work, leg_of, previous, with_leg, with_phase}, LocalNodes.LocalNode, Paths.{PathRequest, path_with}, State.NodeState, Turns.decide}
use Rattle.mesh_nodes.proofs.{Cases.if_cases, FitLists.in_use-beyond, LegList.{find-with_leg, found-lsp}, Phases.{armed-is, held-is}}
use Rattle.lsp_laws.specs.CallLaw.{phases_fit, phase_of}
use Rattle.lsp_laws.proofs.{nodes.Facts.{LegFacts, NodeFacts}, nodes.CallKeeps.{back-is, call-found, is-backup, must_have_call}, nodes.CallStepKeeps.after-puts, nodes.Decides.{backup-row, decide-after, revised}, nodes.LegEnds.{has_previous-away, no_previous-here, previous-away}, nodes.LegParts.{LegPart, MayStand, part-with_leg}, nodes.Parts.{keeps-leg, leg_part}, nodes.PathKeeps.{KeepsFacts, keeps-first}, nodes.PhaseLegs.{armed-back, held-back, stands-alone, stands-unmarked}, nodes.States.Row}
use Rattle.lsp_laws.proofs.nodes.States as states

-- A Path at a leg that stands

module _ (p : LocalNode) (s : NodeState) (g : Leg) (facts : NodeFacts p.id.0 s)
    (here : find_leg g.lsp s.legs ≡ Some g) where
  leg : LegFacts p.id.0 s.lsp g
  leg = facts.leg g.lsp g here

  module _ (away : nat_eq g.lsp.ingress.0 p.id.0 ≡ false) (held : is_held g.phase ≡ true)
      (free : is_contended s.legs g ≡ false) where
    used : (f : Phase) → is_beyond_asked f ≡ true → NodeFacts p.id.0 (changed s (puts (with_phase f g) []))
    used f later =
        let is = held-is g.phase held in
        keeps-leg p.id.0 s (with_phase f g) away
        (stands-alone p.id.0 s.lsp s.legs f g (leg_part p.id.0 s facts) here (rw is refl) later
        (held-back p.id.0 s.lsp g leg is) s.legs (λ m h apart there. there) free)
        facts

    keeps-armed_on : (route : List Step) (r : PathRole) (o : Option Neighbour) → KeepsFacts p s (armed_on g route r o)
    keeps-armed_on route r None = used Live refl
    keeps-armed_on route r (Some h) = used Armed refl

  -- the leg of a backup in use is Held again
  taken : nat_eq g.lsp.ingress.0 p.id.0 ≡ false → is_active_backup g ≡ true →
      NodeFacts p.id.0 (changed s (puts (with_phase Held g) []))
  taken away active =
      keeps-leg p.id.0 s (with_phase Held g) away
      (stands-unmarked p.id.0 s.lsp s.legs Held g (leg_part p.id.0 s facts) here
      (in_use-beyond g.phase (and-right (not (is_work g.role)) _ active)) refl
      (back-is g.role (not-true (is_work g.role) (and-left (not (is_work g.role)) _ active)))
      (λ used. absurd (cc used)))
      facts

  keeps-again : (a : Arrival) (route : List Step) (r : PathRole) → KeepsFacts p s (path_again p s a route r g)
  keeps-again a route (path.Work guard) = facts
  keeps-again a route (path.Back false work primary) =
      if_cases (KeepsFacts p s) (is_active_backup g && is_over (previous g) a.from a.link) _ _
      (λ e. taken (previous-away p.id.0 s.lsp g a.from a.link leg (and-right (is_active_backup g) _ e))
      (and-left (is_active_backup g) _ e))
      (λ e. facts)
  keeps-again a route (path.Back true work primary) =
      if_cases (KeepsFacts p s) (is_held g.phase && is_over (previous g) a.from a.link) _ _
      (λ e. if_cases (KeepsFacts p s) (is_contended s.legs g) _ _ (λ b. facts)
      (λ free. keeps-armed_on
      (previous-away p.id.0 s.lsp g a.from a.link leg (and-right (is_held g.phase) _ e))
      (and-left (is_held g.phase) _ e) free route (path.Back true work primary) (following g)))
      (λ e. facts)

  -- An answer at an Armed leg

  module _ (armed : is_armed g.phase ≡ true) where
    in-phase : g.phase ≡ Armed
    in-phase = armed-is g.phase armed

    of-backup : g.role ≡ Back
    of-backup = armed-back p.id.0 s.lsp g leg in-phase

    -- it is Live, or Held again
    may : (f : Phase) → is_beyond_asked f ≡ true → MayStand p.id.0 s.lsp s.legs (with_phase f g)
    may f later =
        stands-unmarked p.id.0 s.lsp s.legs f g (leg_part p.id.0 s facts) here (rw in-phase refl) later of-backup
        (λ used. rw in-phase refl)

    away-phase : (f : Phase) (h : Neighbour) → is_beyond_asked f ≡ true → previous g ≡ Some h →
        NodeFacts p.id.0 (changed s (puts (with_phase f g) []))
    away-phase f h later before =
        keeps-leg p.id.0 s (with_phase f g) (has_previous-away p.id.0 s.lsp g h leg before) (may f later) facts

    -- the leg is in the phase f, and then its call, which turned, decides
    module _ (f : Phase) (later : is_beyond_asked f ≡ true) (begins : g.lsp.ingress.0 ≡ p.id.0) where
      legs_kept : LegPart p.id.0 s.lsp (with_leg (with_phase f g) s.legs)
      legs_kept =
          part-with_leg p.id.0 s.lsp s.lsp (with_phase f g) s.legs (omega arith) (leg_part p.id.0 s facts)
          (may f later)

      module _ (c : CallRec) (called : call_with g.lsp s.calls ≡ Some c) where
        is-back : c.back ≡ Some g.lsp
        is-back = is-backup p.id.0 s facts g here c called (ap is_work of-backup)

        found : find_call c.call s.calls ≡ Some c
        found = call-found p.id.0 s facts g here c called

        turns : is_turning c.state ≡ true
        turns =
            let row : Row c.state (phase_of (leg_of c.work s.legs)) (Some Armed) =
            subst (λ x. Row c.state (phase_of (leg_of c.work s.legs)) (Some x)) in-phase
            (backup-row p.id.0 s facts c found g here is-back) in
            ap is_turning (states.armed-back c.state (phase_of (leg_of c.work s.legs)) row).0

        decides : (state : CallState) (cause : Cause) → phases_fit state (Some Live) (Some f) ≡ true →
            KeepsFacts p s (followed_by (puts (with_phase f g) [])
            (decide s.legs (revised c state c.work_reports c.back_reports cause 0) (Some (with_phase f g))))
        decides state cause standing =
            after-puts p s
            (decide s.legs (revised c state c.work_reports c.back_reports cause 0) (Some (with_phase f g)))
            (with_phase f g)
            (decide-after p.id.0 s facts c found g here is-back f g.in_label g.out_label
            (with_leg (with_phase f g) s.legs) (find-with_leg (with_phase f g) s.legs) legs_kept c.work_reports
            c.back_reports cause 0 state standing)

      -- a leg that begins here and isn't torn has a call
      must-have : call_with g.lsp s.calls ≡ None → ⊥
      must-have none = must_have_call p.id.0 s g facts here (ap is_closing in-phase) begins none

    -- where it begins here its call follows by this rule
    follows : (f : Phase) → is_beyond_asked f ≡ true → previous g ≡ None → (rule : Option CallRec → Answer) →
        ((begins : g.lsp.ingress.0 ≡ p.id.0) (c : CallRec) → call_with g.lsp s.calls ≡ Some c →
        KeepsFacts p s (followed_by (puts (with_phase f g) []) (rule (Some c)))) →
        KeepsFacts p s (followed_by (puts (with_phase f g) []) (rule (call_with g.lsp s.calls)))
    follows f later before rule each = go (call_with g.lsp s.calls) refl
      where
        begins : g.lsp.ingress.0 ≡ p.id.0
        begins = no_previous-here p.id.0 s.lsp g leg before

        go : (o : Option CallRec) → call_with g.lsp s.calls ≡ o →
            KeepsFacts p s (followed_by (puts (with_phase f g) []) (rule o))
        go None none = absurd (must-have f later begins none)
        go (Some c) called = each begins c called

    keeps-confirmed : (o : Option Neighbour) → previous g ≡ o → KeepsFacts p s (confirmed s g o)
    keeps-confirmed (Some h) before = away-phase Live h refl before
    keeps-confirmed None before = follows Live refl before (call_turned s (with_phase Live g)) (λ begins c called.
        rw (turns Live refl begins c called) (decides Live refl begins c called Turned Unset refl))

    keeps-disarmed : (m : Msg) (o : Option Neighbour) → previous g ≡ o → KeepsFacts p s (disarmed s g m o)
    keeps-disarmed m (Some h) before = away-phase Held h refl before
    keeps-disarmed m None before = follows Held refl before (call_contended s (with_phase Held g)) (λ begins c called.
        rw (turns Held refl begins c called) (decides Held refl begins c called Stuck (Code busy_code) refl))

pub keeps-resv_again : (p : LocalNode) (s : NodeState) (a : Arrival) (x : ℕ) (g : Leg) → NodeFacts p.id.0 s →
    find_leg g.lsp s.legs ≡ Some g → KeepsFacts p s (resv_again s a x g)
keeps-resv_again p s a x g facts here =
    if_cases (KeepsFacts p s) (is_confirmed a x g) _ _
    (λ e. keeps-confirmed p s g facts here (and-left (is_armed g.phase) _ e) (previous g) refl) (λ e. facts)

pub keeps-contended : (p : LocalNode) (s : NodeState) (g : Leg) (m : Msg) → NodeFacts p.id.0 s →
    find_leg g.lsp s.legs ≡ Some g → KeepsFacts p s (contended s g m)
keeps-contended p s g m facts here =
    if_cases (KeepsFacts p s) (is_armed g.phase) _ _ (λ e. keeps-disarmed p s g facts here e m (previous g) refl)
    (λ e. facts)

-- Every Path

pub keeps-on_path : (p : LocalNode) (s : NodeState) (m : PathRequest) (o : Option Leg) → NodeFacts p.id.0 s →
    find_leg m.arrival.lsp s.legs ≡ o → KeepsFacts p s (path_with p s m o)
keeps-on_path p s m None facts is = keeps-first p s m facts
keeps-on_path p s m (Some g) facts is =
    let here : find_leg g.lsp s.legs ≡ Some g =
    subst (λ l. find_leg l s.legs ≡ Some g) (sym (found-lsp m.arrival.lsp s.legs g is)) is in
    keeps-again p s g facts here m.arrival (drop 1 m.route) m.role

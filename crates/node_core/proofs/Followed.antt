-- A node's rule of a message is that of its leg, followed by that of the call at the ingress.
use Rattle.std.proofs.Common.{◌≡◌, ◌∙◌, ℕ, Bool, true, false, cond, [], refl, ap, subst, sym}
use Rattle.std.specs.Prelude.{◌&&◌, not, Option, Some, None, is_some}
use Rattle.ason_base.specs.{Labels.has, declared.calls.Phase.TheVariants.Live, declared.codes.ErrCode.ErrCode, declared.ids.LinkId.LinkId, declared.ids.Lsp.Lsp, declared.ids.NodeId.NodeId, declared.messages.Msg.Msg, declared.messages.Msg.TheVariants.{Resv, PathErr}, declared.tables.Leg.Leg}
use Rattle.mesh_rules.specs.{declared.neighbours.Neighbour.Neighbour, declared.arrivals.Arrival.Arrival, ActivationAnswers.{confirmed, contended}, CallSteps.call_refused, Calls.call_with, Changes.{Answer, followed_by, nothing, removes}, Legs.{connected, find_leg, following, is_armed, is_asked, is_closing, is_label, is_node, is_over, previous, with_phase}, Messages.{arrival, on_message}, PathErrs.{PathFailure, err_passed, path_err_with}, Resvs.{answered, resv_with}, State.{NodeState, new_node}}
use Rattle.mesh_rules.proofs.Phases.{armed-unasked}
use Rattle.mesh_nodes.proofs.LegList.{found-lsp}
use Rattle.leg_table.specs.{States.{legs_state, local_of, state_of}, Tables.{CallTable, LegTable}}
use Rattle.activation.specs.Answers.{carries_leg, activation_connected_here}
use Rattle.resv_state.specs.Answers.{connects_leg, err_taken, refuses_leg, resv_taken}
use Rattle.call_control.specs.Rules as call
use Rattle.node_core.specs.Followed.{followed_if, removal_followed, resv_at, resv_followed}

module _ (t : LegTable) (c : CallTable) where
  -- Resvs

  -- at this leg, where o is the one that is found
  abbrev resv-by : Arrival → ℕ → Option Leg → Leg → Answer
  resv-by a x o g =
      cond (is_armed g.phase)
      (followed_if (carries_leg a x o) (activation_connected_here a x o) (call.turned_here t c (with_phase Live g)))
      (followed_if (connects_leg a x o) (resv_taken t a x o) (call.answered_here t c (connected g None x)))

  resv-leg : (a : Arrival) (x : ℕ) (g : Leg) →
      resv_with (local_of t) (state_of t c) a x (Some g) ≡ resv-by a x (Some g) g
  resv-leg a x g =
      go (is_asked g.phase) (is_over (following g) a.from a.link && has g.sent x) (is_armed g.phase)
      (is_over (following g) a.from a.link && is_label g.out_label x) (previous g) (armed-unasked g.phase)
    where
      go : (e y r z : Bool) (o : Option Neighbour) → (r ≡ true → e ≡ false) →
          cond (e && y) (answered (local_of t) (state_of t c) a x g o)
          (cond (r && z) (confirmed (state_of t c) g o) nothing)
          ≡ cond r
          (followed_if ((r && z) && not (is_some o)) (cond (r && z) (confirmed new_node g o) nothing)
          (call.turned_here t c (with_phase Live g)))
          (followed_if ((e && y) && not (is_some o))
          (cond (e && y) (answered (local_of t) (legs_state t) a x g o) nothing)
          (call.answered_here t c (connected g None x)))
      go true y true z o not_both = absurd (cc (not_both refl))
      go true true false z None not_both = refl
      go true true false z (Some h) not_both = refl
      go true false false z o not_both = refl
      go false y false z o not_both = refl
      go false y true true None not_both = refl
      go false y true true (Some h) not_both = refl
      go false y true false o not_both = refl

  -- PathErrs

  -- one that tells that the state was removed
  removal-leg : (u : NodeId) (e : PathFailure) → e.removed ≡ true → (o : Option Leg) → find_leg e.lsp t.legs ≡ o →
      path_err_with (state_of t c) u e o
      ≡ followed_if (refuses_leg u e o) (err_taken u e o) (call.refused_for e.code (call_with e.lsp c.calls) o)
  removal-leg u e gone None found = refl
  removal-leg u e gone (Some g) found = go e.removed gone (is_node (following g) u) (is_asked g.phase) (previous g)
    where
      same : g.lsp ≡ e.lsp
      same = found-lsp e.lsp t.legs g found

      taken : NodeState → Bool → Option Neighbour → Answer
      taken s d o = cond d (err_passed s g e o) (cond (is_closing g.phase) (removes g.lsp []) nothing)

      go : (r : Bool) → r ≡ true → (b d : Bool) (o : Option Neighbour) →
          cond b (cond r (taken (state_of t c) d o) (contended (state_of t c) g e.msg)) nothing
          ≡ followed_if ((r && b) && (d && not (is_some o))) (cond (r && b) (taken new_node d o) nothing)
          (call_refused e.code g (call_with e.lsp c.calls))
      go false is b d o = absurd (cc is)
      go true is false d o = refl
      go true is true false o = refl
      go true is true true None =
          ap (λ l. followed_by (removes g.lsp []) (call_refused e.code g (call_with l c.calls))) same
      go true is true true (Some h) = refl

pub resv-follows : (t : LegTable) (c : CallTable) (u : NodeId) (l : Lsp) (e : NodeId) (k : LinkId) (x : ℕ) →
    on_message (local_of t) (state_of t c) u (Resv l e k x) ≡ resv_followed t c u l x (Resv l e k x)
resv-follows t c u l e k x = go (find_leg l t.legs) refl
  where
    a : Arrival
    a = arrival l e u k

    go : (o : Option Leg) → find_leg l t.legs ≡ o →
        resv_with (local_of t) (state_of t c) a x o ≡ resv_at t c u x (Resv l e k x) o
    go None found = refl
    go (Some g) found =
        resv-leg t c a x g ∙ ap (λ o. resv-by t c a x o g) (sym found)

pub removal-follows : (t : LegTable) (c : CallTable) (u : NodeId) (l : Lsp) (e at : NodeId) (code : ErrCode) →
    on_message (local_of t) (state_of t c) u (PathErr l e at true code)
    ≡ removal_followed t c u l code (PathErr l e at true code)
removal-follows t c u l e at code =
    removal-leg t c u (record { lsp = l; msg = PathErr l e at true code; removed = true; code = code }) refl
    (find_leg l t.legs) refl

-- The same of a message that is one of these

module _ (t : LegTable) (c : CallTable) (u : NodeId) (m : Msg) where
  pub resv-is : (l : Lsp) (e : NodeId) (k : LinkId) (x : ℕ) → m ≡ Resv l e k x →
      resv_followed t c u l x m ≡ on_message (local_of t) (state_of t c) u m
  resv-is l e k x is =
      subst (λ m. resv_followed t c u l x m ≡ on_message (local_of t) (state_of t c) u m) (sym is)
      (sym (resv-follows t c u l e k x))

  pub removal-is : (l : Lsp) (e at : NodeId) (code : ErrCode) → m ≡ PathErr l e at true code →
      removal_followed t c u l code m ≡ on_message (local_of t) (state_of t c) u m
  removal-is l e at code is =
      subst (λ m. removal_followed t c u l code m ≡ on_message (local_of t) (state_of t c) u m) (sym is)
      (sym (removal-follows t c u l e at code))

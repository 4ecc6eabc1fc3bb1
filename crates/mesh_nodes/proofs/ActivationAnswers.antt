-- What the answers to a Path that activates do fits.
use Rattle.std.proofs.{Common.{◌≡◌, ℕ, true, false, not, nat_eq, refl, sym, ◌∙◌, arith}, lemmas.Bool.not-false}
use Rattle.std.specs.Prelude.{Option, Some, None, is_some}
use Rattle.ason_base.specs.{Writable.IsWritableMsg, declared.calls.Phase.Phase, declared.calls.Phase.TheVariants.{Held, Live}, declared.messages.Msg.Msg, declared.tables.Leg.Leg}
use Rattle.ason_base.proofs.Bools.{and-left}
use Rattle.mesh_rules.specs.{declared.arrivals.Arrival.Arrival, declared.neighbours.Neighbour.Neighbour, ActivationAnswers.{confirmed, contended, disarmed, is_confirmed, resv_again}, CallSteps.{call_contended, call_turned}, Calls.call_with, Legs.{is_armed, is_beyond_asked, previous, with_leg, with_phase}, LocalNodes.LocalNode, State.NodeState}
use Rattle.mesh_nodes.specs.{FitNodes.{LegFits, LegsFit, NodeFits}, LocalNodes.LocalNodeFits, Sent.AnswerFits}
use Rattle.mesh_nodes.proofs.{CallSteps.{contended-call-fits, turned-call-fits}, Cases.if_cases, Followed.after-puts, FitLists.{alone-fibre, armed-beyond, legs-changed, phase-fits}, LegList.{find-with_leg, same_lsp-refl}, Paths.nothing-fits, Stands.{LegStands, previous-is_near, resv-sent}, Turns.BeginsHere}

-- a leg without a previous node begins here
pub begins-here : (p : LocalNode) (next : ℕ) (g : Leg) → LegFits p next g → previous g ≡ None →
    g.lsp.ingress.0 ≡ p.id.0
begins-here p next g fits is =
    let alone : is_some g.in_fibre ≡ false = alone-fibre g.prev g.in_fibre fits.in_fibre is in
    let far : not (nat_eq g.lsp.ingress.0 p.id.0) ≡ false = sym fits.prev ∙ sym fits.in_fibre ∙ alone in
    let here : nat_eq g.lsp.ingress.0 p.id.0 ≡ true = not-false (nat_eq g.lsp.ingress.0 p.id.0) far in
    grind arith

-- it stands where it was put
pub begins-put : (p : LocalNode) (s : NodeState) (h : Leg) → h.lsp.ingress.0 ≡ p.id.0 →
    BeginsHere p (with_leg h s.legs) h
begins-put p s h begins = record {
  found = find-with_leg h s.legs h.lsp ∙ rw (same_lsp-refl h.lsp) refl;
  begins = begins;
}

-- An Armed leg
module _ (p : LocalNode) (s : NodeState) (g : Leg) (W : Type 0) (place : LocalNodeFits p) (fits : NodeFits p s)
    (stands : LegStands p s g) (armed : is_armed g.phase ≡ true) where
  phase-legs : (f : Phase) → is_beyond_asked f ≡ true → LegsFit p s.lsp (with_leg (with_phase f g) s.legs)
  phase-legs f beyond =
      legs-changed p s.lsp (with_phase f g) g s.legs fits.legs stands.found
      (phase-fits p s.lsp f g stands.fits (armed-beyond g.phase armed) beyond)

  phase-kept : (f : Phase) → is_beyond_asked f ≡ true →
      NodeFits p (record s { legs = with_leg (with_phase f g) s.legs })
  phase-kept f beyond =
      record { legs = phase-legs f beyond; calls = fits.calls; first = fits.first; numbers = fits.numbers }

  confirmed-fits : (o : Option Neighbour) → previous g ≡ o → AnswerFits p s W (confirmed s g o)
  confirmed-fits None is =
      after-puts p s W (call_turned s (with_phase Live g) (call_with g.lsp s.calls)) (with_phase Live g)
      (turned-call-fits p s (with_leg (with_phase Live g) s.legs) (with_phase Live g) W place (phase-kept Live refl)
      (call_with g.lsp s.calls) refl (begins-put p s (with_phase Live g) (begins-here p s.lsp g stands.fits is)))
  confirmed-fits (Some h) is =
      let sent = resv-sent p s.lsp g (Some h) g.in_label stands.fits is in
      record {
        kept = phase-kept Live refl;
        near = sent.near;
        written = λ w. sent.written;
        few = (let few = sent.few in omega arith);
      }

  disarmed-fits : (m : Msg) (o : Option Neighbour) → (W → IsWritableMsg m) → previous g ≡ o →
      AnswerFits p s W (disarmed s g m o)
  disarmed-fits m None writable is =
      after-puts p s W (call_contended s (with_phase Held g) (call_with g.lsp s.calls)) (with_phase Held g)
      (contended-call-fits p s (with_leg (with_phase Held g) s.legs) (with_phase Held g) W place (phase-kept Held refl)
      (call_with g.lsp s.calls) refl (begins-put p s (with_phase Held g) (begins-here p s.lsp g stands.fits is)))
  disarmed-fits m (Some h) writable is = record {
    kept = phase-kept Held refl;
    near = (previous-is_near p s.lsp g h stands.fits is, tt);
    written = λ w. (writable w, tt);
    few = omega arith;
  }

pub resv_again-fits : (p : LocalNode) (s : NodeState) (a : Arrival) (x : ℕ) (g : Leg) (W : Type 0) → LocalNodeFits p →
    NodeFits p s → LegStands p s g → AnswerFits p s W (resv_again s a x g)
resv_again-fits p s a x g W place fits stands =
    if_cases (AnswerFits p s W) (is_confirmed a x g) _ _
    (λ e. confirmed-fits p s g W place fits stands (and-left (is_armed g.phase) _ e) (previous g) refl)
    (λ e. nothing-fits p s W fits)

pub contended-fits : (p : LocalNode) (s : NodeState) (g : Leg) (m : Msg) (W : Type 0) → LocalNodeFits p →
    NodeFits p s → LegStands p s g → (W → IsWritableMsg m) → AnswerFits p s W (contended s g m)
contended-fits p s g m W place fits stands writable =
    if_cases (AnswerFits p s W) (is_armed g.phase) _ _
    (λ e. disarmed-fits p s g W place fits stands e m (previous g) writable refl) (λ e. nothing-fits p s W fits)

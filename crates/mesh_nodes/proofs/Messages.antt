-- What a Resv, a PathErr, a PathTear and every message do fits.
use Rattle.std.proofs.Common.{◌≡◌, ℕ, true, false, not, [], refl, sym, arith}
use Rattle.std.specs.Prelude.{◌&&◌, Option, Some, None, is_some}
use Rattle.ason_base.specs.{Codes.torn_code, Labels.has, Writable.IsWritableMsg, declared.ids.NodeId.NodeId, declared.messages.Msg.TheVariants.{Path, Resv, PathTear, PathErr, Notify}, declared.tables.Leg.Leg}
use Rattle.ason_base.proofs.Bools.{and-left, and-right}
use Rattle.mesh_rules.specs.{declared.arrivals.Arrival.Arrival, declared.neighbours.Neighbour.Neighbour, CallSteps.{call_answered, call_refused}, Calls.call_with, Changes.{removes, to_node}, Legs.{closed, connected, find_leg, following, is_asked, is_closing, is_node, is_over, label_through, previous, with_leg, without_leg}, Messages.arrival, PathErrs.{PathFailure, err_passed, path_err_with, refused_here, removed}, Resvs.{answered, connected_here, is_expected, labels_left, passed_back, resv_with}, LocalNodes.LocalNode, State.NodeState, Tears.{tear_with, torn}}
use Rattle.mesh_nodes.specs.{FitNodes.{LegsFit, NodeFits}, AnswerLaws.MessagesFit, LocalNodes.{LocalNodeFits, is_neighbour}, Sent.{AnswerFits, CanBePassedOn}}
use Rattle.mesh_nodes.proofs.{ActivationAnswers.{begins-here, begins-put, contended-fits, resv_again-fits}, Activations.on_path-fits, CallSteps.{answered-call-fits, refused-call-fits}, Cases.if_cases, Followed.{after-puts, after-removes}, FitLists.{alone-fibre, beside-fibre, closed-fits, connected-fits, legs-changed, legs-less, length-replaced, over-fibre}, Links.over-near, Paths.nothing-fits, Reports.notify-fits, Stands.{LegStands, following-is_near, leg-stands, previous-is_near, following-near, previous-near}}

-- Resv

module _ (p : LocalNode) (s : NodeState) (a : Arrival) (x : ℕ) (g : Leg) (W : Type 0) (place : LocalNodeFits p)
    (fits : NodeFits p s) (stands : LegStands p s g)
    (over : is_over (following g) a.from a.link ≡ true) where
  out : is_some g.out_fibre ≡ true
  out = over-fibre g.next g.out_fibre a.from a.link over

  from-near : is_neighbour p a.from ≡ true
  from-near = over-near p (following g) a.from a.link (following-near p s.lsp g stands.fits) over

  -- the leg with the label that came, and the label that goes back where there is a fibre in
  connected-legs : (label : Option ℕ) → is_some label ≡ is_some g.in_fibre →
      LegsFit p s.lsp (with_leg (connected g label x) s.legs)
  connected-legs label labelled =
      legs-changed p s.lsp (connected g label x) g s.legs fits.legs stands.found
      (connected-fits p s.lsp g label x stands.fits labelled out)

  passed_back-fits : (h : Neighbour) (o : Option ℕ) → previous g ≡ Some h → AnswerFits p s W (passed_back p a g h x o)
  passed_back-fits h None is = record {
    kept = record {
      legs = legs-changed p s.lsp (closed g) g s.legs fits.legs stands.found (closed-fits p s.lsp g stands.fits);
      calls = fits.calls;
      first = fits.first;
      numbers = fits.numbers;
    };
    near = (from-near, (previous-is_near p s.lsp g h stands.fits is, tt));
    written = λ w. (tt, (tt, tt));
    few = omega arith;
  }
  passed_back-fits h (Some y) is = record {
    kept = record {
      legs = connected-legs (Some y) (sym (beside-fibre g.prev g.in_fibre h is));
      calls = fits.calls;
      first = fits.first;
      numbers = fits.numbers;
    };
    near = (previous-is_near p s.lsp g h stands.fits is, tt);
    written = λ w. (tt, tt);
    few = omega arith;
  }

  connected_here-fits : previous g ≡ None → AnswerFits p s W (connected_here p s x g)
  connected_here-fits is =
      let alone : is_some g.in_fibre ≡ false = alone-fibre g.prev g.in_fibre stands.fits.in_fibre is in
      let legs : LegsFit p s.lsp (with_leg (connected g None x) s.legs) = connected-legs None (sym alone) in
      after-puts p s W (call_answered p s (connected g None x) (call_with g.lsp s.calls)) (connected g None x)
      (answered-call-fits p s (with_leg (connected g None x) s.legs) (connected g None x) W place
      (record { legs = legs; calls = fits.calls; first = fits.first; numbers = fits.numbers })
      (call_with g.lsp s.calls) refl
      (length-replaced (connected g None x) g s.legs fits.legs.rise stands.found)
      (connected-fits p s.lsp g None x stands.fits (sym alone) out)
      (begins-put p s (connected g None x) (begins-here p s.lsp g stands.fits is)))

  answered-fits : (o : Option Neighbour) → previous g ≡ o → AnswerFits p s W (answered p s a x g o)
  answered-fits None is = connected_here-fits is
  answered-fits (Some h) is = passed_back-fits h (label_through p (labels_left p s g h) x) is

resv-fits : (p : LocalNode) (s : NodeState) (a : Arrival) (x : ℕ) (W : Type 0) (o : Option Leg) → LocalNodeFits p →
    NodeFits p s → find_leg a.lsp s.legs ≡ o → AnswerFits p s W (resv_with p s a x o)
resv-fits p s a x W None place fits found = nothing-fits p s W fits
resv-fits p s a x W (Some g) place fits found =
    if_cases (AnswerFits p s W) (is_expected a x g) _ _
    (λ e.
    let rest : (is_over (following g) a.from a.link && has g.sent x) ≡ true = and-right (is_asked g.phase) _ e in
    answered-fits p s a x g W place fits (leg-stands p s a.lsp g fits found)
    (and-left (is_over (following g) a.from a.link) _ rest) (previous g) refl)
    (λ e. resv_again-fits p s a x g W place fits (leg-stands p s a.lsp g fits found))

-- PathErr

module _ (p : LocalNode) (s : NodeState) (g : Leg) (e : PathFailure) (W : Type 0) (place : LocalNodeFits p)
    (fits : NodeFits p s) (stands : LegStands p s g) (writable : W → IsWritableMsg e.msg) where
  -- without the leg
  without-fits : NodeFits p (record s { legs = without_leg g.lsp s.legs })
  without-fits = record {
    legs = legs-less p s.lsp g.lsp s.legs fits.legs;
    calls = fits.calls;
    first = fits.first;
    numbers = fits.numbers;
  }

  gone-fits : AnswerFits p s W (removes g.lsp [])
  gone-fits = record { kept = without-fits; near = tt; written = λ w. tt; few = omega arith }

  refused_here-fits : AnswerFits p s W (refused_here s g e.code)
  refused_here-fits =
      after-removes p s W (call_refused e.code g (call_with g.lsp s.calls)) g.lsp
      (refused-call-fits p s (without_leg g.lsp s.legs) g W place without-fits e.code (call_with g.lsp s.calls) refl)

  passed-fits : (o : Option Neighbour) → previous g ≡ o → AnswerFits p s W (err_passed s g e o)
  passed-fits None is = refused_here-fits
  passed-fits (Some h) is = record {
    kept = without-fits;
    near = (previous-is_near p s.lsp g h stands.fits is, tt);
    written = λ w. (writable w, tt);
    few = omega arith;
  }

  removed-fits : AnswerFits p s W (removed s g e)
  removed-fits =
      if_cases (AnswerFits p s W) (is_asked g.phase) _ _ (λ t. passed-fits (previous g) refl)
      (λ t. if_cases (AnswerFits p s W) (is_closing g.phase) _ _ (λ c. gone-fits) (λ c. nothing-fits p s W fits))

err-fits : (p : LocalNode) (s : NodeState) (u : NodeId) (e : PathFailure) (W : Type 0) (o : Option Leg) →
    LocalNodeFits p → NodeFits p s → find_leg e.lsp s.legs ≡ o → (W → IsWritableMsg e.msg) →
    AnswerFits p s W (path_err_with s u e o)
err-fits p s u e W None place fits found writable = nothing-fits p s W fits
err-fits p s u e W (Some g) place fits found writable =
    let stands = leg-stands p s e.lsp g fits found in
    if_cases (AnswerFits p s W) (is_node (following g) u) _ _
    (λ t. if_cases (AnswerFits p s W) e.removed _ _ (λ r. removed-fits p s g e W place fits stands writable)
    (λ r. contended-fits p s g e.msg W place fits stands writable))
    (λ t. nothing-fits p s W fits)

-- PathTear

torn-fits : (p : LocalNode) (s : NodeState) (a : Arrival) (g : Leg) (W : Type 0) (o : Option Neighbour) →
    NodeFits p s → LegStands p s g →
    is_over (previous g) a.from a.link ≡ true → following g ≡ o →
    AnswerFits p s W (torn g (to_node a.from (PathErr g.lsp g.egress p.id true torn_code)) o)
torn-fits p s a g W None fits stands over is = record {
  kept = record {
    legs = legs-less p s.lsp g.lsp s.legs fits.legs;
    calls = fits.calls;
    first = fits.first;
    numbers =
        fits.numbers;
  };
  near = (over-near p (previous g) a.from a.link (previous-near p s.lsp g stands.fits) over, tt);
  written = λ w. (tt, tt);
  few = omega arith;
}
torn-fits p s a g W (Some h) fits stands over is = record {
  kept = record {
    legs = legs-changed p s.lsp (closed g) g s.legs fits.legs stands.found (closed-fits p s.lsp g stands.fits);
    calls = fits.calls;
    first = fits.first;
    numbers = fits.numbers;
  };
  near = (
    over-near p (previous g) a.from a.link (previous-near p s.lsp g stands.fits) over,
    (following-is_near p s.lsp g h stands.fits is, tt),
  );
  written = λ w. (tt, (tt, tt));
  few = omega arith;
}

tear-fits : (p : LocalNode) (s : NodeState) (a : Arrival) (W : Type 0) (o : Option Leg) → NodeFits p s →
    find_leg a.lsp s.legs ≡ o →
    AnswerFits p s W (tear_with p a o)
tear-fits p s a W None fits found = nothing-fits p s W fits
tear-fits p s a W (Some g) fits found =
    if_cases (AnswerFits p s W) (not (is_closing g.phase) && is_over (previous g) a.from a.link) _ _
    (λ e. torn-fits p s a g W (following g) fits (leg-stands p s a.lsp g fits found)
    (and-right (not (is_closing g.phase)) _ e) refl)
    (λ e. nothing-fits p s W fits)

-- Every message

pub messages-fit : MessagesFit
messages-fit p s u (Path l e k route set up r) place fits =
    on_path-fits p s (record {
      arrival =
          arrival l e u k;
      route = route;
      set = set;
      upstream = up;
      role = r;
    }) (CanBePassedOn (Path l e k route set up r)) (λ w. w) place fits
messages-fit p s u (Resv l e k x) place fits =
    resv-fits p s (arrival l e u k) x (Unit {0}) (find_leg l s.legs) place fits refl
messages-fit p s u (PathTear l e k) place fits =
    tear-fits p s (arrival l e u k) (Unit {0}) (find_leg l s.legs) fits refl
messages-fit p s u (PathErr l e at gone code) place fits =
    err-fits p s u (record {
      lsp =
          l;
      msg = PathErr l e at gone code;
      removed = gone;
      code = code;
    }) (Unit {0}) (find_leg l s.legs) place fits refl (λ w. tt)
messages-fit p s u (Notify l e at k code) place fits =
    notify-fits p s (Unit {0}) fits u (record {
      lsp =
          l;
      msg = Notify l e at k code;
      at = at;
      link = k;
      code = code;
    }) (find_leg l s.legs) refl (λ w. tt)

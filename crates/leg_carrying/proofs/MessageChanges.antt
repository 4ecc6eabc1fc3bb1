-- The legs that a Path, a PathTear, a Resv or a PathErr changes may be changed so: just the last takes a label more,
-- and one that is usable; and one is marked just where it was or isn't contended.
use Rattle.std.proofs.{Common.{◌≡◌, ◌∙◌, inl, inr, ℕ, Bool, true, false, not, nat_eq, List, [], ◌∷◌, refl, sym, ap, subst, drop, arith}, lemmas.Bool.or_cases}
use Rattle.std.specs.{Prelude.{◌&&◌, Option, Some, None, IfSome, is_some}, List.AllByRecursion}
use Rattle.ason_base.specs.{Labels.{has, least}, Lsps.same_fibre, declared.codes.ErrCode.ErrCode, declared.ids.Fibre.Fibre, declared.ids.LinkId.LinkId, declared.ids.NodeId.NodeId, declared.network.LinkSpec.LinkSpec, declared.steps.Step.Step, declared.tables.CallRec.CallRec, declared.tables.Leg.Leg, declared.tables.Out.Out}
use Rattle.ason_base.proofs.Bools.{and-left, and-right}
use Rattle.mesh_rules.specs.{declared.arrivals.Arrival.Arrival, declared.neighbours.Neighbour.Neighbour, ActivationAnswers.{contended, resv_again}, CallSteps.call_answered, Calls.call_with, Changes.{followed_by, puts}, Legs.{closed, connected, find_leg, following, is_asked, is_at, is_closing, is_node, is_over, label_through, previous, reverse, reverse_of, takes, usable, with_leg, without_leg}, LocalNodes.{LocalNode, fibre_in, fibre_out, leads, own_link}, Pairs.beside_lsp, PathErrs.{PathFailure, err_passed, on_path_err, path_err_with, removed}, Paths.{PathRequest, admitted, at_egress, back_label, checks, egress_leg, first_failure, first_path, in_transit, is_active, judged, offered_labels, on_path, path_with, risks_here, role_of, transit_leg}, Resvs.{answered, is_expected, labels_left, on_resv, passed_back, resv_with}, State.NodeState, Tears.{on_tear, tear_with, torn}}
use Rattle.mesh_rules.proofs.AnswerParts.{beside, reserved-plain}
use Rattle.mesh_nodes.specs.{FitNodes.LegFits, LocalNodes.{LocalNodeFits, is_upstream}}
use Rattle.mesh_nodes.proofs.{Cases.if_cases, ChosenLabels.{back-has, has-right, least-has, through-has}, FitLists.{alone-fibre, connected-fits, over-fibre}, LabelPlaces.{at-is, back_in-taken, same_fibre-refl}, LegList.found-all, Links.any-found}
use Rattle.leg_table.specs.LegClaims.{MayBePut, MayTakeLabel, OverOwnFibres, TakesNoMore, Took, is_fibre_in, is_own_fibre, takes_of}
use Rattle.leg_table.proofs.OwnFibres.{over-own, upstream-fibre_in}
use Rattle.leg_carrying.proofs.{Activated.{contended-calm, path_again-calm, resv_again-calm}, CallLegs.{FineLegs, answered-may, calm-fine, number-absent, put-turns, refused-fine}, MayMark.{closed-marks, dark, plain}, MayPut.{closed-less, connected-less, found-itself, itself, less-put, new-put, one-in}}
use Rattle.leg_labels.proofs.InFibres.{out-comes_back}

-- Path

own-in : (p : LocalNode) (m : PathRequest) (link : LinkSpec) → own_link p m.arrival.link ≡ Some link →
    is_fibre_in p (fibre_in link p.id) ≡ true
own-in p m link own =
    any-found (λ l. same_fibre (fibre_in l p.id) (fibre_in link p.id))
    (λ l. nat_eq l.id.0 m.arrival.link.0) p.own link own
    (same_fibre-refl (fibre_in link p.id))

module _ (p : LocalNode) (s : NodeState) (m : PathRequest) (links : LocalNodeFits p)
    (absent : find_leg m.arrival.lsp s.legs ≡ None) where
  -- the leg at the egress takes its label
  egress-may : (link : LinkSpec) (o : Option ℕ) → own_link p m.arrival.link ≡ Some link →
      least (offered_labels p s m link) ≡ o →
      FineLegs p s.legs (at_egress p m link (risks_here p s m) (offered_labels p s m link) o)
  egress-may link None own e = (tt, tt)
  egress-may link (Some x) own e =
      let g = egress_leg p m link (risks_here p s m) (offered_labels p s m link) x in
      let f = fibre_in link p.id in
      let may : MayTakeLabel p s.legs g (record { fibre = f; label = x }) = record {
        fresh = ap (takes_of f x) absent;
        comes_in = own-in p m link own;
        usable = has-right m.set (usable p s.legs (role_of m.role) (risks_here p s m) f) x
            (least-has (offered_labels p s m link) x e);
      } in (
        (inr (one-in p s.legs s.legs g f x may refl refl (λ h z at. absurd (cc at))), tt),
        (dark (is_own_fibre p) s.legs g (reserved-plain (role_of m.role)), tt),
      )

  -- a leg on the way takes its label for the way back, if it has one
  transit-may : (link : LinkSpec) (route : List Step) (k : LinkId) (o : Option LinkSpec) → own_link p k ≡ o →
      FineLegs p s.legs (in_transit p s m link route o)
  transit-may link route k None found = (tt, tt)
  transit-may link route k (Some out) found =
      let g = transit_leg p m link (risks_here p s m) out route (offered_labels p s m link) (back_label p s m out) in
      let f = reverse (fibre_out out p.id) in (
        (
          new-put p s.legs s.legs g f refl refl (out-comes_back p k out links found) absent
              (back-has p (usable p s.legs (role_of m.role) (risks_here p s m) f) m.upstream),
          tt,
        ),
        (dark (is_own_fibre p) s.legs g (plain g refl), tt),
      )

  admitted-may : (link : LinkSpec) (route : List Step) → own_link p m.arrival.link ≡ Some link →
      FineLegs p s.legs (admitted p s m link route)
  admitted-may link [] own = egress-may link (least (offered_labels p s m link)) own refl
  admitted-may link (hop ∷ route) own = transit-may link route hop.link (own_link p hop.link) refl

  judged-may : (link : LinkSpec) (o : Option ErrCode) → own_link p m.arrival.link ≡ Some link →
      FineLegs p s.legs (judged p s m link o)
  judged-may link None own = admitted-may link m.route own
  judged-may link (Some code) own = (tt, tt)

  first-may : (o : Option LinkSpec) → own_link p m.arrival.link ≡ o → FineLegs p s.legs (first_path p s m o)
  first-may None own = (tt, tt)
  first-may (Some link) own =
      if_cases (FineLegs p s.legs)
      (not (is_active m.role) && (leads (Some link) m.arrival.from p.id
      && not (nat_eq m.arrival.lsp.ingress.0 p.id.0))) _ _
      (λ e. judged-may link (first_failure (checks p s m link)) own) (λ e. (tt, tt))

-- the first Path of an LSP
pub first_path-may : (p : LocalNode) (s : NodeState) (m : PathRequest) → LocalNodeFits p →
    find_leg m.arrival.lsp s.legs ≡ None → FineLegs p s.legs (first_path p s m (own_link p m.arrival.link))
first_path-may p s m links absent = first-may p s m links absent (own_link p m.arrival.link) refl

pub path-may : (p : LocalNode) (s : NodeState) (m : PathRequest) → LocalNodeFits p →
    AllByRecursion (LegFits p s.lsp) s.legs → FineLegs p s.legs (on_path p s m)
path-may p s m links each = go (find_leg m.arrival.lsp s.legs) refl
  where
    go : (o : Option Leg) → find_leg m.arrival.lsp s.legs ≡ o → FineLegs p s.legs (path_with p s m o)
    go None absent = first_path-may p s m links absent
    go (Some g) found =
        let fits = found-all (LegFits p s.lsp) m.arrival.lsp s.legs g found each in
        let there = found-itself m.arrival.lsp s.legs g found in
        calm-fine p s.legs s.legs (path_with p s m (Some g))
        (path_again-calm p s g (over-own p s.lsp g links fits) there m.arrival (drop 1 m.route) m.role)

-- PathTear

closed-may : (p : LocalNode) (legs : List Leg) (g : Leg) → find_leg g.lsp legs ≡ Some g →
    MayBePut p legs legs (closed g) []
closed-may p legs g there = less-put p legs legs (closed g) [] (closed-less legs g (itself legs g there))

torn-may : (p : LocalNode) (legs : List Leg) (g : Leg) (out : Out) (o : Option Neighbour) →
    find_leg g.lsp legs ≡ Some g → FineLegs p legs (torn g out o)
torn-may p legs g out None there = (tt, (tt, tt))
torn-may p legs g out (Some h) there =
    ((closed-may p legs g there, tt), (closed-marks (is_own_fibre p) legs g there, tt))

pub tear-may : (p : LocalNode) (s : NodeState) (a : Arrival) → FineLegs p s.legs (on_tear p s a)
tear-may p s a = go (find_leg a.lsp s.legs) refl
  where
    go : (o : Option Leg) → find_leg a.lsp s.legs ≡ o → FineLegs p s.legs (tear_with p a o)
    go None found = (tt, tt)
    go (Some g) found =
        if_cases (FineLegs p s.legs) (not (is_closing g.phase) && is_over (previous g) a.from a.link) _ _
        (λ e. torn-may p s.legs g _ (following g) (found-itself a.lsp s.legs g found)) (λ e. (tt, tt))

-- Resv

module _ (p : LocalNode) (s : NodeState) (a : Arrival) (x : ℕ) (g : Leg) (links : LocalNodeFits p)
    (each : AllByRecursion (LegFits p s.lsp) s.legs) (fits : LegFits p s.lsp g)
    (there : find_leg g.lsp s.legs ≡ Some g) where
  -- At the ingress

  -- without a previous node the LSP begins here
  begins : previous g ≡ None → g.lsp.ingress.0 ≡ p.id.0
  begins before = go (nat_eq g.lsp.ingress.0 p.id.0) refl
    where
      go : (b : Bool) → nat_eq g.lsp.ingress.0 p.id.0 ≡ b → g.lsp.ingress.0 ≡ p.id.0
      go true e = grind arith
      go false e =
          let none : is_some g.in_fibre ≡ false = alone-fibre g.prev g.in_fibre fits.in_fibre before in
          let some : is_some g.in_fibre ≡ true = fits.in_fibre ∙ fits.prev ∙ ap not e in
          absurd (cc (none, some))

  connected-may : (o : Option CallRec) → previous g ≡ None → OverOwnFibres p (connected g None x) →
      FineLegs p s.legs (followed_by (puts (connected g None x) []) (call_answered p s (connected g None x) o))
  connected-may o before over =
      let c = connected g None x in
      let absent = number-absent p s (beside_lsp g.lsp s.lsp) each (begins before) refl in
      let call = answered-may p s (with_leg c s.legs) c o links absent (put-turns p s.legs c over) in
      let less = connected-less s.legs g x (itself s.legs g there) in (
        (less-put p s.legs s.legs c (call_answered p s c o).legs less, call.0),
        (dark (is_own_fibre p) s.legs c (reserved-plain g.role), call.1),
      )

  -- On the way

  -- the leg takes the label that goes back, and keeps its label for the way back
  passed-put : (y : ℕ) (h : Neighbour) → g.in_fibre ≡ Some h.fibre → is_fibre_in p h.fibre ≡ true →
      has (usable p s.legs g.role g.risks h.fibre) y ≡ true → MayBePut p s.legs s.legs (connected g (Some y) x) []
  passed-put y h before comes fit = go (takes h.fibre y g) refl
    where
      took : (f : Fibre) (z : ℕ) → takes f z g ≡ true → Took s.legs (connected g (Some y) x) f z
      took f z e = record { before = g; there = there; role = refl; risks = refl; took = e }

      back : (f : Fibre) (z : ℕ) → is_at (reverse_of g.out_fibre) g.back_in f z ≡ true →
          Took s.legs (connected g (Some y) x) f z
      back f z at = took f z (back_in-taken g f z at)

      -- where the LSP's leg takes that label, the leg takes none more
      less : takes h.fibre y g ≡ true → TakesNoMore s.legs (connected g (Some y) x)
      less had f z e = elim (or_cases (is_at g.in_fibre (Some y) f z) _ e) [
        | inl at ↦
            let is = at-is g.in_fibre (Some y) f z at in
            let fibre : h.fibre ≡ f = (let same = sym before ∙ is.0 in cc same) in
            let label : y ≡ z = (let same = is.1 in cc same) in
            took f z (subst (λ k. takes k z g ≡ true) fibre (subst (λ n. takes h.fibre n g ≡ true) label had))
        | inr at ↦ back f z at
      ]

      go : (b : Bool) → takes h.fibre y g ≡ b → MayBePut p s.legs s.legs (connected g (Some y) x) []
      go true had = inl (less had)
      go false fresh =
          inr (one-in p s.legs s.legs (connected g (Some y) x) h.fibre y (record {
            fresh = ap (takes_of h.fibre y) there ∙ fresh;
            comes_in = comes;
            usable = fit;
          }) before refl back)

  passed-may : (h : Neighbour) (o : Option ℕ) → previous g ≡ Some h → label_through p (labels_left p s g h) x ≡ o →
      FineLegs p s.legs (passed_back p a g h x o)
  passed-may h None before e =
      ((closed-may p s.legs g there, tt), (closed-marks (is_own_fibre p) s.legs g there, tt))
  passed-may h (Some y) before e = (
    (
      passed-put y h (beside g.prev g.in_fibre h before)
          (upstream-fibre_in p h (subst (λ o. IfSome o (λ h. is_upstream p h ≡ true)) before fits.upstream))
          (has-right g.offered (usable p s.legs g.role g.risks h.fibre) y
          (through-has p (labels_left p s g h) x y e)),
      tt,
    ),
    (dark (is_own_fibre p) s.legs (connected g (Some y) x) (reserved-plain g.role), tt),
  )

  answered-fine : is_expected a x g ≡ true → (o : Option Neighbour) → previous g ≡ o →
      FineLegs p s.legs (answered p s a x g o)
  answered-fine takes None before =
      let alone = alone-fibre g.prev g.in_fibre fits.in_fibre before in
      let over = and-left (is_over (following g) a.from a.link) _ (and-right (is_asked g.phase) _ takes) in
      let out = over-fibre g.next g.out_fibre a.from a.link over in
      connected-may (call_with g.lsp s.calls) before
      (over-own p s.lsp (connected g None x) links (connected-fits p s.lsp g None x fits (sym alone) out))
  answered-fine takes (Some h) before = passed-may h (label_through p (labels_left p s g h) x) before refl

pub resv-may : (p : LocalNode) (s : NodeState) (a : Arrival) (x : ℕ) → LocalNodeFits p →
    AllByRecursion (LegFits p s.lsp) s.legs → FineLegs p s.legs (on_resv p s a x)
resv-may p s a x links each = go (find_leg a.lsp s.legs) refl
  where
    go : (o : Option Leg) → find_leg a.lsp s.legs ≡ o → FineLegs p s.legs (resv_with p s a x o)
    go None found = (tt, tt)
    go (Some g) found =
        let fits = found-all (LegFits p s.lsp) a.lsp s.legs g found each in
        let there = found-itself a.lsp s.legs g found in
        if_cases (FineLegs p s.legs) (is_expected a x g) _ _
        (λ e. answered-fine p s a x g links each fits there e (previous g) refl)
        (λ e. calm-fine p s.legs s.legs (resv_again s a x g)
        (resv_again-calm p s g (over-own p s.lsp g links fits) there a x))

-- PathErr

passed_err-may : (p : LocalNode) (s : NodeState) (g : Leg) (e : PathFailure) (o : Option Neighbour) →
    FineLegs p s.legs (err_passed s g e o)
passed_err-may p s g e (Some h) = (tt, (tt, tt))
passed_err-may p s g e None =
    let call = refused-fine p s.legs (without_leg g.lsp s.legs) e.code g (call_with g.lsp s.calls) in
    (call.0, (tt, call.1))

pub removed-may : (p : LocalNode) (s : NodeState) (g : Leg) (e : PathFailure) → FineLegs p s.legs (removed s g e)
removed-may p s g e =
    if_cases (FineLegs p s.legs) (is_asked g.phase) _ _ (λ t. passed_err-may p s g e (previous g))
    (λ t. if_cases (FineLegs p s.legs) (is_closing g.phase) _ _ (λ t. (tt, (tt, tt))) (λ t. (tt, tt)))

pub err-may : (p : LocalNode) (s : NodeState) (u : NodeId) (e : PathFailure) → LocalNodeFits p →
    AllByRecursion (LegFits p s.lsp) s.legs → FineLegs p s.legs (on_path_err s u e)
err-may p s u e links each = go (find_leg e.lsp s.legs) refl
  where
    go : (o : Option Leg) → find_leg e.lsp s.legs ≡ o → FineLegs p s.legs (path_err_with s u e o)
    go None found = (tt, tt)
    go (Some g) found =
        let fits = found-all (LegFits p s.lsp) e.lsp s.legs g found each in
        let there = found-itself e.lsp s.legs g found in
        if_cases (FineLegs p s.legs) (is_node (following g) u) _ _
        (λ t. if_cases (FineLegs p s.legs) e.removed _ _ (λ t. removed-may p s g e)
        (λ t. calm-fine p s.legs s.legs (contended s g e.msg)
        (contended-calm p s g (over-own p s.lsp g links fits) there e.msg)))
        (λ t. (tt, tt))

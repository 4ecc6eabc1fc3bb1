-- What a Path does where a leg of its LSP stands fits, and so does every Path.
use Rattle.std.proofs.Common.{[], arith, drop, false, length, List, not, refl, true, ◌∷◌, ◌≡◌, ◌≤◌}
use Rattle.std.specs.Prelude.{◌&&◌, Option, Some, None}
use Rattle.ason_base.specs.{declared.limits.TheConstants.MOST_STEPS, Writable.IsWritableRole, declared.calls.Phase.Phase, declared.calls.Phase.TheVariants.{Armed, Held, Live}, declared.messages.PathRole.PathRole, declared.messages.PathRole.TheVariants.{Work, Back}, declared.steps.Step.Step, declared.tables.Leg.Leg}
use Rattle.ason_base.proofs.Bools.{and-left, and-right}
use Rattle.mesh_rules.specs.{declared.arrivals.Arrival.Arrival, declared.neighbours.Neighbour.Neighbour, Activations.{activated, armed_on, busy_to, path_again, taken_on}, Changes.{puts, sends}, Legs.{find_leg, following, is_active_backup, is_beyond_asked, is_contended, is_held, is_in_use, is_over, is_work, previous, with_leg, with_phase}, LocalNodes.{LocalNode, own_link}, Paths.{PathRequest, on_path, path_with}, State.NodeState}
use Rattle.mesh_nodes.specs.{FitNodes.{LegsFit, NodeFits}, LocalNodes.LocalNodeFits, Sent.{AllToNeighbours, AllWritable, AnswerFits}}
use Rattle.mesh_nodes.proofs.{Cases.if_cases, FitLists.{beside-node, held-beyond, in_use-beyond, legs-changed, phase-fits}, Links.over-near, Paths.{first-fits, nothing-fits}, Stands.{LegStands, following-is_near, leg-stands, previous-near, resv-sent}}

-- A Held leg, and a Path from its previous node. W: the Path can be written.
module _ (p : LocalNode) (s : NodeState) (a : Arrival) (route : List Step) (r : PathRole) (g : Leg) (W : Type 0)
    (fits : NodeFits p s)
    (stands : LegStands p s g) (held : is_held g.phase ≡ true)
    (over : is_over (previous g) a.from a.link ≡ true) where
  busy-fits : AnswerFits p s W (sends (busy_to p g a.from ∷ []))
  busy-fits = record {
    kept = fits;
    near = (over-near p (previous g) a.from a.link (previous-near p s.lsp g stands.fits) over, tt);
    written = λ w. (tt, tt);
    few = omega arith;
  }

  phase-legs : (f : Phase) → is_beyond_asked f ≡ true → LegsFit p s.lsp (with_leg (with_phase f g) s.legs)
  phase-legs f beyond =
      legs-changed p s.lsp (with_phase f g) g s.legs fits.legs stands.found
      (phase-fits p s.lsp f g stands.fits (held-beyond g.phase held) beyond)

  armed_on-fits : (o : Option Neighbour) → following g ≡ o → (W → IsWritableRole r) → (W → length route ≤ MOST_STEPS) →
      AnswerFits p s W (armed_on g route r o)
  armed_on-fits None is role short =
      let sent = resv-sent p s.lsp g (previous g) g.in_label stands.fits refl in
      record {
        kept = record {
          legs = phase-legs Live refl;
          calls = fits.calls;
          first = fits.first;
          numbers = fits.numbers;
        };
        near = sent.near;
        written = λ w. sent.written;
        few = (let few = sent.few in omega arith);
      }
  armed_on-fits (Some h) is role short = record {
    kept = record {
      legs = phase-legs Armed refl;
      calls = fits.calls;
      first = fits.first;
      numbers = fits.numbers;
    };
    near = (following-is_near p s.lsp g h stands.fits is, tt);
    written = λ w. ((stands.fits.set (beside-node g.next g.out_fibre h is), short w, role w), tt);
    few = omega arith;
  }

  activated-fits : (W → IsWritableRole r) → (W → length route ≤ MOST_STEPS) →
      AnswerFits p s W (activated p s a route r g)
  activated-fits role short =
      if_cases (AnswerFits p s W) (is_contended s.legs g) _ _ (λ e. busy-fits)
      (λ e. armed_on-fits (following g) refl role short)

-- the activation of a backup's leg is taken back, and the Path goes on
taken_back-fits : (p : LocalNode) (s : NodeState) (route : List Step) (r : PathRole) (g : Leg) (W : Type 0) →
    NodeFits p s → LegStands p s g → is_in_use g.phase ≡ true → (o : Option Neighbour) → following g ≡ o →
    (W → IsWritableRole r) → (W → length route ≤ MOST_STEPS) →
    AnswerFits p s W (puts (with_phase Held g) (taken_on g route r o))
taken_back-fits p s route r g W fits stands in_use o is role short = record {
  kept = record {
    legs = legs-changed p s.lsp (with_phase Held g) g s.legs fits.legs stands.found
        (phase-fits p s.lsp Held g stands.fits (in_use-beyond g.phase in_use) refl);
    calls = fits.calls;
    first = fits.first;
    numbers = fits.numbers;
  };
  near = near o is;
  written = λ w. written w o is;
  few = few o;
}
  where
    near : (o : Option Neighbour) → following g ≡ o → AllToNeighbours p (taken_on g route r o)
    near None is = tt
    near (Some h) is = (following-is_near p s.lsp g h stands.fits is, tt)

    written : W → (o : Option Neighbour) → following g ≡ o → AllWritable (taken_on g route r o)
    written w None is = tt
    written w (Some h) is = ((stands.fits.set (beside-node g.next g.out_fibre h is), short w, role w), tt)

    few : (o : Option Neighbour) → length (taken_on g route r o) ≤ 65536
    few None = omega arith
    few (Some h) = omega arith

again-fits : (p : LocalNode) (s : NodeState) (a : Arrival) (route : List Step) (r : PathRole) (g : Leg) (W : Type 0) →
    NodeFits p s → LegStands p s g → (W → IsWritableRole r) → (W → length route ≤ MOST_STEPS) →
    AnswerFits p s W (path_again p s a route r g)
again-fits p s a route (Work guard) g W fits stands role short = nothing-fits p s W fits
again-fits p s a route (Back false work primary) g W fits stands role short =
    if_cases (AnswerFits p s W) (is_active_backup g && is_over (previous g) a.from a.link) _ _
    (λ e. taken_back-fits p s route (Back false work primary) g W fits stands
    (and-right (not (is_work g.role)) _ (and-left (is_active_backup g) _ e)) (following g) refl role short)
    (λ e. nothing-fits p s W fits)
again-fits p s a route (Back true work primary) g W fits stands role short =
    if_cases (AnswerFits p s W) (is_held g.phase && is_over (previous g) a.from a.link) _ _
    (λ e. activated-fits p s a route (Back true work primary) g W fits stands (and-left (is_held g.phase) _ e)
    (and-right (is_held g.phase) _ e) role short)
    (λ e. nothing-fits p s W fits)

-- without its first step a route is no longer
rest-short : (route : List Step) → length route ≤ MOST_STEPS → length (drop 1 route) ≤ MOST_STEPS
rest-short [] short = short
rest-short (hop ∷ route) short = omega arith

path-fits : (p : LocalNode) (s : NodeState) (m : PathRequest) (W : Type 0) (o : Option Leg) →
    (W → (length m.route ≤ MOST_STEPS) × IsWritableRole m.role) → LocalNodeFits p → NodeFits p s →
    find_leg m.arrival.lsp s.legs ≡ o → AnswerFits p s W (path_with p s m o)
path-fits p s m W None written place fits found =
    first-fits p s m W (own_link p m.arrival.link) refl written place fits
path-fits p s m W (Some g) written place fits found =
    again-fits p s m.arrival (drop 1 m.route) m.role g W fits (leg-stands p s m.arrival.lsp g fits found)
    (λ w. (written w).1)
    (λ w. rest-short m.route (written w).0)

pub on_path-fits : (p : LocalNode) (s : NodeState) (m : PathRequest) (W : Type 0) →
    (W → (length m.route ≤ MOST_STEPS) × IsWritableRole m.role) → LocalNodeFits p → NodeFits p s →
    AnswerFits p s W (on_path p s m)
on_path-fits p s m W written place fits =
    path-fits p s m W (find_leg m.arrival.lsp s.legs) written place fits refl

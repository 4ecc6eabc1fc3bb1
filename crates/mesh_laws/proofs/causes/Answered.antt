-- Each refusal of an activation, and each lack of a label for a Resv, has its cause.
use Rattle.std.proofs.Common.{◌≡◌, ℕ, Bool, true, false, cond, nat_eq, List, [], ◌∷◌, ◌++◌, map, refl, sym, ◌∙◌, subst}
use Rattle.std.specs.Prelude.{◌&&◌, Option, Some, None, drop}
use Rattle.ason_base.specs.{Codes.busy_code, declared.codes.ErrCode.ErrCode, declared.ids.LinkId.LinkId, declared.ids.Lsp.Lsp, declared.ids.NodeId.NodeId, declared.messages.Msg.TheVariants.{Path, PathErr, Resv}, declared.messages.PathRole.PathRole, declared.messages.PathRole.TheVariants.{Work, Back}, declared.steps.Step.Step, declared.tables.Leg.Leg, declared.tables.Out.Out, Network.{IsTopology, Network, find_link, other_end}, declared.network.LinkSpec.LinkSpec}
use Rattle.mesh_rules.specs.{declared.arrivals.Arrival.Arrival, declared.events.MeshEvent.TheVariants.Take, declared.neighbours.Neighbour.Neighbour, ActivationAnswers.{confirmed, is_confirmed}, Activations.{armed_on, path_again, resv_to, taken_on}, Changes.Answer, Events.{after, step}, Legs.{following, is_active_backup, is_contended, is_held, is_over, label_through, previous}, LocalNodes.{LocalNode, local_node, own_link}, Machine.{Mesh, sent_to, start}, Messages.arrival, Paths.is_none, Resvs.{answered, is_expected, labels_left, passed_back, resv_with}, State.NodeState}
use Rattle.mesh_nodes.proofs.{Cases.if_cases, routes.Nodes.found-link}
use Rattle.lsp_laws.proofs.hops.Plans.{other, own_near}
use Rattle.ason_base.proofs.{Bools.and-left, Numbers.self-number}
use Rattle.mesh_rules.proofs.Topologies.{topology_searchable}
use Rattle.mesh_laws.specs.CauseLaw.{IsLinkAt, EveryBusyIsBusy, EveryLackHasCause, IsBusy}
use Rattle.mesh_laws.proofs.{acts.Busy.leg-busy, causes.KeptOff.offered-kept_off, causes.Refused.same-rest}

module _ (u : NodeId) (l : Lsp) (e d : NodeId) (gone : Bool) (code : ErrCode) where
  abbrev Tells : Answer → Type 0
  Tells a = sent_to u.0 a.sent ≡ PathErr l e d gone code ∷ []

  silent : [] ≡ PathErr l e d gone code ∷ [] → ⊥
  silent is = cc is

  one-path : (b : Bool) (n : NodeId) (l' : Lsp) (e' : NodeId) (k : LinkId) (route : List Step) (set : List ℕ)
      (up : Option ℕ) (r : PathRole) →
      map (λ (o : Out). o.msg) (cond b (record { to = n; msg = Path l' e' k route set up r } ∷ []) [])
      ≡ PathErr l e d gone code ∷ [] → ⊥
  one-path true n l' e' k route set up r is = cc is
  one-path false n l' e' k route set up r is = cc is

  one-resv : (b : Bool) (n : NodeId) (l' : Lsp) (e' : NodeId) (k : LinkId) (y : ℕ) →
      map (λ (o : Out). o.msg) (cond b (record { to = n; msg = Resv l' e' k y } ∷ []) [])
      ≡ PathErr l e d gone code ∷ [] → ⊥
  one-resv true n l' e' k y is = cc is
  one-resv false n l' e' k y is = cc is

  one-err : (b : Bool) (n : NodeId) (l' : Lsp) (e' d' : NodeId) (gone' : Bool) (c : ErrCode) →
      map (λ (o : Out). o.msg) (cond b (record { to = n; msg = PathErr l' e' d' gone' c } ∷ []) [])
      ≡ PathErr l e d gone code ∷ [] → c ≡ code
  one-err true n l' e' d' gone' c is = cc is
  one-err false n l' e' d' gone' c is = absurd (cc is)

  no-resv_to : (g : Leg) (o : Option Neighbour) (x : Option ℕ) →
      sent_to u.0 (resv_to g o x) ≡ PathErr l e d gone code ∷ [] → ⊥
  no-resv_to g None x is = silent is
  no-resv_to g (Some h) None is = silent is
  no-resv_to g (Some h) (Some x) is = one-resv (nat_eq h.node.0 u.0) _ _ _ _ x is

  -- a Path again
  no-armed : (g : Leg) (route : List Step) (r : PathRole) (o : Option Neighbour) → Tells (armed_on g route r o) → ⊥
  no-armed g route r None is = no-resv_to g (previous g) g.in_label is
  no-armed g route r (Some h) is = one-path (nat_eq h.node.0 u.0) _ _ _ _ _ _ _ _ is

  no-taken : (g : Leg) (route : List Step) (r : PathRole) (o : Option Neighbour) →
      sent_to u.0 (taken_on g route r o) ≡ PathErr l e d gone code ∷ [] → ⊥
  no-taken g route r None is = silent is
  no-taken g route r (Some h) is = one-path (nat_eq h.node.0 u.0) _ _ _ _ _ _ _ _ is

  pub path-tells : (p : LocalNode) (s : NodeState) (a : Arrival) (route : List Step) (r : PathRole) (g : Leg) →
      Tells (path_again p s a route r g) → (code ≡ busy_code) × IsBusy s.legs g
  path-tells p s a route (Work guard) g = λ is. absurd (silent is)
  path-tells p s a route (Back true work primary) g =
      if_cases (λ x. Tells x → (code ≡ busy_code) × IsBusy s.legs g)
      (is_held g.phase && is_over (previous g) a.from a.link) _ _
      (λ h. if_cases (λ x. Tells x → (code ≡ busy_code) × IsBusy s.legs g) (is_contended s.legs g) _ _
      (λ busy is. (sym (one-err (nat_eq a.from.0 u.0) _ _ _ _ _ _ is), leg-busy s.legs g busy))
      (λ free is. absurd (no-armed g route (Back true work primary) (following g) is)))
      (λ h is. absurd (silent is))
  path-tells p s a route (Back false work primary) g =
      if_cases (λ x. Tells x → (code ≡ busy_code) × IsBusy s.legs g)
      (is_active_backup g && is_over (previous g) a.from a.link) _ _
      (λ h is. absurd (no-taken g route (Back false work primary) (following g) is)) (λ h is. absurd (silent is))

  -- a Resv
  none-back : (p : LocalNode) (a : Arrival) (g : Leg) (h : Neighbour) (x : ℕ) (o : Option ℕ) →
      Tells (passed_back p a g h x o) → is_none o ≡ true
  none-back p a g h x None is = refl
  none-back p a g h x (Some y) is = absurd (one-resv (nat_eq h.node.0 u.0) _ _ _ _ y is)

  pub resv-tells : (p : LocalNode) (s : NodeState) (a : Arrival) (x : ℕ) (g : Leg) (h : Neighbour) →
      previous g ≡ Some h → Tells (resv_with p s a x (Some g)) →
      is_none (label_through p (labels_left p s g h) x) ≡ true
  resv-tells p s a x g h before =
      if_cases (λ z. Tells z → is_none (label_through p (labels_left p s g h) x) ≡ true) (is_expected a x g) _ _
      (λ e' is. none-back p a g h x _ (subst (λ o. Tells (answered p s a x g o)) before is))
      (λ e'. if_cases (λ z. Tells z → is_none (label_through p (labels_left p s g h) x) ≡ true) (is_confirmed a x g) _ _
      (λ c is. absurd (no-resv_to g (Some h) g.in_label (subst (λ o. Tells (confirmed s g o)) before is)))
      (λ c is. absurd (silent is)))

-- a refusal of an activation, over every run
pub every_busy : EveryBusyIsBusy
every_busy t events run u d e l k route set up r ms g e' code apart first here sent =
    let s : Mesh = after t start events in
    let x : NodeState = s.nodes d.0 in
    let tests : nat_eq d.0 u.0 ≡ false = other d.0 u.0 (λ is. apart (sym is)) in
    let goes : (step t s (Take d u)).mail d.0 u.0
    ≡ (s.mail d.0 u.0 ++ sent_to u.0 (path_again (local_node t d) x (arrival l e u k) (drop 1 route) r g).sent) =
    rw (first, self-number d.0, tests, here) refl in
    path-tells u l e' d false code (local_node t d) x (arrival l e u k) (drop 1 route) r g
    (same-rest (s.mail d.0 u.0) _ _ (sym goes ∙ sent))

-- over a topology a node knows its own links by their numbers
own-of : (t : Network) → IsTopology t → (d : NodeId) (k : LinkId) (link : LinkSpec) → IsLinkAt t d k link →
    own_link (local_node t d) k ≡ Some link
own-of t valid d k link at =
    own_near t k d (other_end link d) (record {
      link = link;
      found = subst (λ j. find_link t j ≡ Some link) at.id
          (found-link t.links link (and-left _ _ (topology_searchable t valid)) at.there);
      id = at.id;
      touches = at.ends;
      far = refl;
    })

-- a Resv for which no label is left, over every run
pub every_lack : EveryLackHasCause
every_lack t events valid run u d v e l k x ms g f in_link e' code apart away first here prev into at sent y was may low
    high =
    let s : Mesh = after t start events in
    let z : NodeState = s.nodes d.0 in
    let h : Neighbour = record { node = v; fibre = f } in
    let tests : nat_eq d.0 u.0 ≡ false = other d.0 u.0 (λ is. apart (sym is)) in
    let before : previous g ≡ Some h = rw (prev, into) refl in
    let goes : (step t s (Take d u)).mail d.0 v.0
    ≡ (s.mail d.0 v.0 ++ sent_to v.0 (resv_with (local_node t d) z (arrival l e u k) x (Some g)).sent) =
    rw (first, self-number d.0, tests, here) refl in
    offered-kept_off (local_node t d) z.legs g.role g.risks f in_link g.offered x (own-of t valid d f.link in_link at)
    (resv-tells v l e' d true code (local_node t d) z (arrival l e u k) x g h before
    (same-rest (s.mail d.0 v.0) _ _ (sym goes ∙ sent))) y was may low high

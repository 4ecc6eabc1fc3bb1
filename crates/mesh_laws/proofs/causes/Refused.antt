-- Each refusal of a Path has its cause, by cases of the checks.
use Rattle.std.proofs.{Common.{◌≡◌, ℕ, Bool, true, false, not, cond, nat_eq, nat_le, List, [], ◌∷◌, ◌++◌, find, map, length, refl, sym, ap, ◌∙◌, subst, inl, inr, leb-true}, lemmas.Bool.not-true}
use Rattle.std.specs.{Prelude.{◌⊎◌, ◌&&◌, ◌||◌, Option, Some, None, is_some, drop}, List.{Contains, list_any}}
use Rattle.mesh_rules.specs.{declared.limits.TheConstants.MOST_LEGS, declared.events.MeshEvent.TheVariants.Take, Changes.Answer, Events.{after, route_of, step}, KnownRows.{has_row, known_rows}, Legs.reverse, LocalNodes.{LocalNode, fibre_in, fibre_out, leads, local_node, own_link}, Machine.{Mesh, sent_to, start}, Messages.arrival, Paths.{PathRequest, admitted, at_egress, checks, first_failure, first_path, in_transit, is_active, is_none, is_primary_unknown, judged, lacks_back, leads_on, link_on, offered_labels, recorded, role_of}, State.NodeState}
use Rattle.ason_base.specs.{Codes.{down_code, full_code, label_code, primary_code, route_code, set_code}, Labels.least, Lsps.{has_fibre, same_fibre}, Network.{Network, other_end}, declared.codes.ErrCode.ErrCode, declared.ids.Fibre.Fibre, declared.ids.LinkId.LinkId, declared.ids.Lsp.Lsp, declared.ids.NodeId.NodeId, declared.messages.Msg.TheVariants.{Path, PathErr, Resv}, declared.messages.PathRole.PathRole, declared.messages.PathRole.TheVariants.{Work, Back}, declared.network.LinkSpec.LinkSpec, declared.network.TeRow.TeRow, declared.steps.Step.Step, declared.tables.Out.Out}
use Rattle.ason_base.proofs.{Ordered.{any-there, there-any}, Members.there-from_map, Numbers.self-number, Bools.not-self, JoinedEnds.same-node}
use Rattle.mesh_nodes.proofs.{Cases.if_cases, LabelPlaces.same_fibre-eq, routes.Walked.node_test, routes.Nodes.same_number as link-test}
use Rattle.lsp_laws.proofs.{hops.Plans.{found_id, other, own_near}, hops.HopLaws.follows}
use Rattle.mesh_laws.specs.CauseLaw.{Asked, ComesDown, EveryRefusalHasCause, HasCause, HasNoLabel, HasNoWayBack, IsFull, IsUnknown, KeepsOff, PrimaryIsUnknown, asks_as, risks_of_primary}
use Rattle.mesh_laws.proofs.{causes.Leads.{RouteLeadsOn, path-leads}, causes.KeptOff.{own-link-at, set-kept_off, through-kept_off}}

-- Lists

-- what is appended to one list is found by what comes of it
pub same-rest : {X : Type 0} (xs ys zs : List X) → (xs ++ ys) ≡ (xs ++ zs) → ys ≡ zs
same-rest [] ys zs e = e
same-rest (x ∷ xs) ys zs e = same-rest xs ys zs (ap (drop 1) e)

any-found : {X : Type 0} (p : X → Bool) (xs : List X) → is_some (find p xs) ≡ true → list_any p xs ≡ true
any-found p [] e = absurd (cc e)
any-found p (x ∷ xs) e = go (p x) e (any-found p xs)
  where
    go : (b : Bool) → is_some (cond b (Some x) (find p xs)) ≡ true →
        (is_some (find p xs) ≡ true → list_any p xs ≡ true) → (b || list_any p xs) ≡ true
    go true e later = refl
    go false e later = later e

-- What is sent back

module _ (p : LocalNode) (x : NodeState) (u : NodeId) (m : PathRequest) (to_u : m.arrival.from ≡ u) (code : ErrCode) where
  abbrev Refuses : Answer → Type 0
  Refuses a = sent_to u.0 a.sent ≡ PathErr m.arrival.lsp m.arrival.egress p.id true code ∷ []

  no-refusal : Refuses (record { legs = []; calls = []; numbers = None; down = None; rows = []; sent = [] }) → ⊥
  no-refusal e = cc e

  no-resv : (b : Bool) (l : Lsp) (e : NodeId) (k : LinkId) (y : ℕ) →
      map (λ (o : Out). o.msg) (cond b (record { to = m.arrival.from; msg = Resv l e k y } ∷ []) [])
      ≡ PathErr m.arrival.lsp m.arrival.egress p.id true code ∷ [] → ⊥
  no-resv true l e k y is = cc is
  no-resv false l e k y is = cc is

  no-path : (b : Bool) (n : NodeId) (l : Lsp) (e : NodeId) (k : LinkId) (route : List Step) (set : List ℕ)
      (up : Option ℕ) (r : PathRole) →
      map (λ (o : Out). o.msg) (cond b (record { to = n; msg = Path l e k route set up r } ∷ []) [])
      ≡ PathErr m.arrival.lsp m.arrival.egress p.id true code ∷ [] → ⊥
  no-path true n l e k route set up r is = cc is
  no-path false n l e k route set up r is = cc is

  err-code : (b : Bool) (c : ErrCode) →
      map (λ (o : Out). o.msg) (cond b
      (record { to = m.arrival.from; msg = PathErr m.arrival.lsp m.arrival.egress p.id true c } ∷ []) [])
      ≡ PathErr m.arrival.lsp m.arrival.egress p.id true code ∷ [] → c ≡ code
  err-code true c is = cc is
  err-code false c is = absurd (cc is)

  not-admitted : (link : LinkSpec) (route : List Step) → Refuses (admitted p x m link route) → ⊥
  not-admitted link [] = egress (least (offered_labels p x m link))
    where
      egress : (o : Option ℕ) →
          Refuses (at_egress p m link (recorded (known_rows p x) m.role) (offered_labels p x m link) o) → ⊥
      egress None e = no-refusal e
      egress (Some y) e = no-resv (nat_eq m.arrival.from.0 u.0) _ _ _ y e
  not-admitted link (hop ∷ route) = transit (own_link p hop.link)
    where
      transit : (o : Option LinkSpec) → Refuses (in_transit p x m link route o) → ⊥
      transit None e = no-refusal e
      transit (Some out) e = no-path (nat_eq (other_end out p.id).0 u.0) _ _ _ _ _ _ _ _ e

  pub failed-check : (o : Option LinkSpec) → Refuses (first_path p x m o) → (link : LinkSpec) × (o ≡ Some link) ×
      (first_failure (checks p x m link) ≡ Some code)
  failed-check None = λ e. absurd (no-refusal e)
  failed-check (Some link) =
      if_cases (λ a. Refuses a → (k : LinkSpec) × (Some link ≡ Some k) × (first_failure (checks p x m k) ≡ Some code))
      (not (is_active m.role) && (leads (Some link) m.arrival.from p.id
      && not (nat_eq m.arrival.lsp.ingress.0 p.id.0))) _ _
      (λ h e. (link, refl, judge (first_failure (checks p x m link)) e)) (λ h e. absurd (no-refusal e))
    where
      judge : (c : Option ErrCode) → Refuses (judged p x m link c) → c ≡ Some code
      judge None e = absurd (not-admitted link m.route e)
      judge (Some c) e = ap Some (err-code (nat_eq m.arrival.from.0 u.0) c e)

-- The cause

either-check : (fails : Bool) (c code : ErrCode) (rest : Option ErrCode) → cond fails (Some c) rest ≡ Some code →
    ((fails ≡ true) × (code ≡ c)) ⊎ (rest ≡ Some code)
either-check true c code rest e = inl (refl, (cc e))
either-check false c code rest e = inr e

same-role : (r : PathRole) → role_of r ≡ asks_as r
same-role (Work guard) = refl
same-role (Back active work primary) = refl

same-risks : (rows : List TeRow) (r : PathRole) → recorded rows r ≡ risks_of_primary rows r
same-risks rows (Work guard) = refl
same-risks rows (Back active work primary) = refl

-- where the test of a Path's primary fails, a link of its route is unknown
pub primary-unknown : (rows : List TeRow) (r : PathRole) → is_primary_unknown rows r ≡ true → PrimaryIsUnknown rows r
primary-unknown rows (Work guard) e = absurd (cc e)
primary-unknown rows (Back active work primary) e =
    let k = any-there (λ l. not (has_row rows l)) (map (λ (s : Step). s.link) primary)
    (any-found (λ l. not (has_row rows l)) (map (λ (s : Step). s.link) primary) e) in
    let hop = there-from_map (λ (s : Step). s.link) primary k.0 k.1 in
    let none : has_row rows k.0 ≡ false = not-true _ k.2 in (
      hop.0,
      hop.1,
      λ row known is.
          (let has : has_row rows k.0 ≡ true =
          there-any (λ (z : TeRow). nat_eq z.link.0 k.0.0) rows row known
          (link-test row.link k.0 (is ∙ hop.2)) in
          cc (has, none)),
    )

down-there : (fibres : List Fibre) (f : Fibre) → has_fibre fibres f ≡ true → Contains fibres f
down-there fibres f e =
    let g = any-there (same_fibre f) fibres e in
    subst (Contains fibres) (sym (same_fibre-eq f g.0 g.2)) g.1

module _ (t : Network) (x : NodeState) (d : NodeId) (u e : NodeId) (l : Lsp) (k : LinkId) (route : List Step)
    (set : List ℕ) (up : Option ℕ) (r : PathRole) (code : ErrCode) (link : LinkSpec)
    (own : own_link (local_node t d) k ≡ Some link) (onward : RouteLeadsOn t d e k route) where
  abbrev p : LocalNode
  p = local_node t d

  abbrev m : PathRequest
  m = record { arrival = arrival l e u k; route = route; set = set; upstream = up; role = r }

  abbrev asked : Asked
  asked = record { lsp = l; egress = e; link = link; route = route; set = set; upstream = up; role = r }

  own-id : (j : LinkId) (out : LinkSpec) → own_link (local_node t d) j ≡ Some out →
      own_link (local_node t d) out.id ≡ Some out
  own-id j out is = subst (λ i. own_link p i ≡ Some out) (sym (found_id j p.own out is)) is

  -- in other words
  kept-so : (f : Fibre) (y : ℕ) → KeepsOff x.legs (role_of r) (recorded (known_rows (local_node t d) x) r) f y →
      KeepsOff x.legs (asks_as r) (risks_of_primary (known_rows (local_node t d) x) r) f y
  kept-so f y kept =
      subst (λ q. KeepsOff x.legs q (risks_of_primary (known_rows p x) r) f y) (same-role r)
      (subst (λ risks. KeepsOff x.legs (role_of r) risks f y) (same-risks (known_rows p x) r) kept)

  amiss : leads_on (local_node t d) (arrival l e u k) route ≡ false → RouteLeadsOn t d e k route → ⊥
  amiss e' leads = go route e' leads
    where
      go : (route : List Step) → leads_on (local_node t d) (arrival l e u k) route ≡ false →
          RouteLeadsOn t d e k route → ⊥
      go [] is ends = (let test = node_test d e ends in cc (is, test))
      go (hop ∷ rest) is (away, here, apart, out, found, ends) =
          let one : nat_eq d.0 e.0 ≡ false = other d.0 e.0 (λ same_number. away (same-node d e same_number)) in
          let two : nat_eq hop.node.0 d.0 ≡ true = node_test hop.node d here in
          let three : nat_eq hop.link.0 k.0 ≡ false =
          other hop.link.0 k.0 (λ number. apart (λ i. record { 0 = number i })) in
          let near : own_link (local_node t d) hop.link ≡ Some out =
          own_near t hop.link d (other_end out d)
          (record { link = out; found = found; id = found_id hop.link t.links out found; touches = ends; far = refl }) in
          let leads : leads_on (local_node t d) (arrival l e u k) (hop ∷ rest) ≡ true = rw (one, two, three, near) refl in
          cc (is, leads)

  -- no way back
  way-back : (route' : List Step) → route ≡ route' → lacks_back (local_node t d) x
      (record { arrival = arrival l e u k; route = route; set = set; upstream = up; role = r })
      (link_on (local_node t d) route') ≡ true → code ≡ label_code →
      HasCause t x d
      (record { lsp = l; egress = e; link = link; route = route; set = set; upstream = up; role = r }) code
  way-back [] is lacks told = absurd (cc lacks)
  way-back (hop ∷ rest) is lacks told = over (own_link p hop.link) refl lacks
    where
      label : (out : LinkSpec) → own_link (local_node t d) hop.link ≡ Some out → (o : Option ℕ) → up ≡ o →
          lacks_back (local_node t d) x
          (record { arrival = arrival l e u k; route = route; set = set; upstream = o; role = r }) (Some out) ≡ true →
          HasCause t x d
          (record { lsp = l; egress = e; link = link; route = route; set = set; upstream = up; role = r }) code
      label out found None none lacks = absurd (cc lacks)
      label out found (Some y) some lacks =
          HasNoWayBack hop rest out y (reverse (fibre_out out d)) told is (own-link-at t d hop.link out found) some
          (record { link = refl; forward = λ e. not-self (fibre_out out d).forward e })
          (λ z may low high. kept-so (reverse (fibre_out out d)) z
          (through-kept_off p x.legs (role_of r) (recorded (known_rows p x) r) (reverse (fibre_out out d)) out y
          (own-id hop.link out found) lacks z may low high))

      over : (o : Option LinkSpec) → own_link (local_node t d) hop.link ≡ o → lacks_back (local_node t d) x
          (record { arrival = arrival l e u k; route = route; set = set; upstream = up; role = r }) o ≡ true →
          HasCause t x d
          (record { lsp = l; egress = e; link = link; route = route; set = set; upstream = up; role = r }) code
      over None found lacks = absurd (cc lacks)
      over (Some out) found lacks = label out found up refl lacks

  pub cause-of : first_failure (checks (local_node t d) x
      (record { arrival = arrival l e u k; route = route; set = set; upstream = up; role = r }) link) ≡ Some code →
      HasCause t x d
      (record { lsp = l; egress = e; link = link; route = route; set = set; upstream = up; role = r }) code
  cause-of fails = elim (either-check (nat_le MOST_LEGS (length x.legs)) full_code code _ fails) [
    | inl is ↦ IsFull is.1 (leb-true MOST_LEGS (length x.legs) is.0)
    | inr fails ↦ elim (either-check (not (leads_on p m.arrival m.route)) route_code code _ fails) [
      | inl is ↦ absurd (amiss (not-true _ is.0) onward)
      | inr fails ↦ elim (either-check (is_primary_unknown (known_rows p x) r) primary_code code _ fails) [
        | inl is ↦ IsUnknown is.1 (primary-unknown (known_rows p x) r is.0)
        | inr fails ↦ elim (either-check (has_fibre x.down (fibre_in link d)) down_code code _ fails) [
          | inl is ↦ ComesDown is.1 (down-there x.down (fibre_in link d) is.0)
          | inr fails ↦ elim (either-check (is_none (least (offered_labels p x m link))) set_code code _ fails) [
            | inl is ↦ HasNoLabel is.1 (λ y asked low high. kept-so (fibre_in link d) y
                (set-kept_off p x.legs (role_of r) (recorded (known_rows p x) r) (fibre_in link d) link set
                (own-id k link own) is.0 y asked low high))
            | inr fails ↦ elim (either-check (lacks_back p x m (link_on p route)) label_code code None fails) [
              | inl is ↦ way-back route refl is.0 is.1
              | inr none ↦ absurd (cc none)
            ]
          ]
        ]
      ]
    ]
  ]

-- over every network and every run
pub every_refusal_has_cause : EveryRefusalHasCause
every_refusal_has_cause t events run u d e l k route set up r ms code apart first none sent =
    let s : Mesh = after t start events in
    let x : NodeState = s.nodes d.0 in
    let m : PathRequest =
    record { arrival = arrival l e u k; route = route; set = set; upstream = up; role = r } in
    let tests : nat_eq d.0 u.0 ≡ false = other d.0 u.0 (λ is. apart (sym is)) in
    let goes : (step t s (Take d u)).mail d.0 u.0
    ≡ (s.mail d.0 u.0 ++ sent_to u.0 (first_path (local_node t d) x m (own_link (local_node t d) k)).sent) =
    rw (first, self-number d.0, tests, none) refl in
    let answer = same-rest (s.mail d.0 u.0) _ _ (sym goes ∙ sent) in
    let failed = failed-check (local_node t d) x u m refl code (own_link (local_node t d) k) answer in (
      failed.0,
      own-link-at t d k failed.0 failed.1,
      cause-of t x d u e l k route set up r code failed.0 failed.1
          (path-leads t s (route_of t start events) (follows t events run) u d e l k route set up r ms first) failed.2,
    )

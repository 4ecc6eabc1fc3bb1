-- The first Path of an LSP is taken on its route: what its reports tell stays.
use Rattle.std.proofs.{Common.{◌≡◌, ◌≢◌, ◌≤◌, ◌<◌, ℕ, suc, true, false, List, [], ◌∷◌, refl, sym, ap, ◌∙◌, subst, arith, inl, inr}, lemmas.Bool.cases_lt}
use Rattle.std.specs.Prelude.{◌&&◌, ◌⊎◌, map, Option, Some, None}
use Rattle.ason_base.specs.{Lsps.has_fibre, Network.Network, declared.ids.LinkId.LinkId, declared.ids.Lsp.Lsp, declared.ids.NodeId.NodeId, declared.messages.Msg.Msg, declared.messages.Msg.TheVariants.Path, declared.messages.PathRole.PathRole, declared.steps.Step.Step, declared.tables.CallRec.CallRec}
use Rattle.ason_base.proofs.Bools.{and-right}
use Rattle.mesh_rules.specs.{Calls.{calls_changed, find_call}, Changes.Answer, LocalNodes.{LocalNode, local_node, own_link}, Machine.{Mesh, commit, without_first}, Messages.{arrival, on_message}, Paths.{PathRequest, first_path, is_active}}
use Rattle.mesh_nodes.specs.Routes.{AreRowsOf}
use Rattle.mesh_nodes.proofs.{LearnsNothing.message-keeps_down, LegList.same_lsp-refl}
use Rattle.lsp_laws.specs.{HopLaw.{leg_at, mail_between, messages_of, notices_between}, HopShapes.{NoLeg, PlainPath, Shape, leg_kind, msg_kind, path_kind}, ReportLaw.{is_standing, on_the_way, reports_of, told, told_by_all}}
use Rattle.lsp_laws.proofs.{hops.Chain.{IsVacant, is_or_not}, hops.OtherLsps.sent-plain, hops.Own.own-leg_part, hops.Planned.{Planned, Routes}, hops.Plans.{LinkLeads, Plan, distinct, fibre_at, hops, link_at, node_at, own_far}, hops.Purposes.{Purpose, has_path, plain_inactive, purpose_role}, hops.PathTaken.first_taken, hops.Sending.{elsewhere-taken, left-taken}, hops.Tables.leg_after, hops.Taken.down_hop, hops.Views.{leg-here, leg-there, notices-plain, notices-without}}
use Rattle.lsp_laws.proofs.hops.PathRule as path_rule
use Rattle.mesh_laws.proofs.{reports.Desks.same-down, reports.FirstPaths.{clear-first_path, no_calls-first_path}, reports.GentleWords.{CallOf, IsUnreached, PlaceTold, RouteTold, StandsUpTo, Untold, call-before, has_plain, is_first_under_way, is_waiting, line_at}, reports.OnTheWay.same_lines, reports.WaitingLegs.{asked-waits, closing-torn, plain-path, silent-way}}

module _ (t : Network) (s : Mesh) (o : Routes) (l : Lsp) (q : Purpose) (p : Plan) (i : ℕ) (pl : Planned t s o l q p)
    (below : i < hops p) (e : NodeId) (k : LinkId) (steps : List Step) (set : List ℕ) (label : Option ℕ)
    (purpose : PathRole) (rest : List Msg)
    (was : s.mail (node_at p i).0 (node_at p (suc i)).0 ≡ Path l e k steps set label purpose ∷ rest)
    (learnt : AreRowsOf t (s.nodes (node_at p (suc i)).0).learnt) (plain : path_kind purpose ≡ PlainPath)
    (none : leg_at s l (node_at p (suc i)) ≡ None) (r : RouteTold t s l p) where
  abbrev u : NodeId
  u = node_at p i

  abbrev d : NodeId
  d = node_at p (suc i)

  abbrev m : Msg
  m = Path l e k steps set label purpose

  abbrev asks : PathRequest
  asks = record { arrival = arrival l e (node_at p i) k; route = steps; set = set; upstream = label; role = purpose }

  abbrev place : LocalNode
  place = local_node t (node_at p (suc i))

  abbrev answer : Answer
  answer = on_message (local_node t (node_at p (suc i))) (s.nodes (node_at p (suc i)).0) (node_at p i)
      (Path l e k steps set label purpose)

  abbrev later : Mesh
  later = commit (without_first s (node_at p i).0 (node_at p (suc i)).0) (node_at p (suc i)).0
      (on_message (local_node t (node_at p (suc i))) (s.nodes (node_at p (suc i)).0) (node_at p i)
      (Path l e k steps set label purpose))

  far : (node_at p i).0 ≢ (node_at p (suc i)).0
  far = distinct t l.ingress p pl.route i (suc i) (omega arith) (omega arith) (omega arith)

  mine : mail_between s l (node_at p i) (node_at p (suc i)) ≡ m ∷ messages_of l rest
  mine = rw (was, same_lsp-refl l) refl

  inactive : is_active purpose ≡ false
  inactive = plain_inactive purpose plain

  -- where the leg that sent the Path stands, it is Asked
  waits : is_standing (leg_at s l (node_at p i)) ≡ true → is_waiting (leg_at s l (node_at p i)) ≡ true
  waits stands = elim (first_taken (purpose_role q) _ _ _ shape).bare [
    | inl asked ↦ asked-waits (leg_at s l (node_at p i)) asked
    | inr closing ↦ absurd (let torn = closing-torn (leg_at s l (node_at p i)) closing in cc (torn, stands))
  ]
    where
      shape : Shape (purpose_role q) (leg_kind (leg_at s l (node_at p i))) NoLeg
          (PlainPath ∷ map msg_kind (messages_of l rest))
          (map msg_kind (mail_between s l (node_at p (suc i)) (node_at p i)))
      shape = rw (none, plain) at
          (down_hop t q s l p i pl.route pl.chain below m rest was (same_lsp-refl l)).shape

  -- the Path is on this hop
  unreached : StandsUpTo s l p i → IsUnreached t s l p i
  unreached stands =
      r.first i below stands (rw (waits (stands i (omega arith)), mine, inactive) refl)

  vacant : (x : ℕ) → x < hops p → StandsUpTo s l p x → is_first_under_way s l (node_at p x) (node_at p (suc x)) ≡ true →
      (y : ℕ) → x < y → y ≤ hops p → IsVacant p (leg_at s l) (mail_between s l) y
  vacant x small stands sent y after most =
      pl.chain.fresh x small
      (record {
        gone = (r.first x small stands sent).gone x (omega arith) small;
        path = plain-path (mail_between s l (node_at p x) (node_at p (suc x)))
            (and-right (is_waiting (leg_at s l (node_at p x))) _ sent);
      }) y after most

  -- no other hop before has one
  alone : (x : ℕ) → x < i → StandsUpTo s l p x → is_first_under_way s l (node_at p x) (node_at p (suc x)) ≡ true → ⊥
  alone x less stands sent =
      let empty = (vacant x (omega arith) stands sent i less (omega arith)).no_down below in
      let some = mine in cc (empty, some)

  -- What stays

  leg-else : (n : NodeId) → n.0 ≢ (node_at p (suc i)).0 → leg_at later l n ≡ leg_at s l n
  leg-else n apart = leg-there (without_first s u.0 d.0) d n l answer apart

  place-else : (x : ℕ) → x ≤ hops p → x ≢ suc i → leg_at later l (node_at p x) ≡ leg_at s l (node_at p x)
  place-else x most apart =
      leg-else (node_at p x) (distinct t l.ingress p pl.route x (suc i) most (let b = below in omega arith) apart)

  notices-same : (a b : NodeId) → notices_between later l a b ≡ notices_between s l a b
  notices-same a b =
      notices-plain (without_first s u.0 d.0) d a b l answer
      (sent-plain l answer.sent (own-leg_part place (s.nodes d.0) u m refl).sent)
      ∙ notices-without s u d a b m rest l was refl

  down-same : (n : ℕ) → (later.nodes n).down ≡ (s.nodes n).down
  down-same n =
      same-down (without_first s u.0 d.0) d.0 answer (message-keeps_down place (s.nodes d.0) u m) n

  path-is : answer ≡ first_path (local_node t (node_at p (suc i))) (s.nodes (node_at p (suc i)).0) asks
      (own_link (local_node t (node_at p (suc i))) k)
  path-is = rw none refl

  no-calls : answer.calls ≡ []
  no-calls =
      ap (λ (a : Answer). a.calls) path-is
      ∙ no_calls-first_path place (s.nodes d.0) asks (own_link place k)

  call-same : (c : CallRec) → CallOf later l c → CallOf s l c
  call-same c of =
      let was = call-before (without_first s u.0 d.0) d.0 answer l c
      (λ found. subst (λ cs. find_call c.call (calls_changed cs (s.nodes l.ingress.0).calls) ≡ Some c) no-calls found)
      of in
      record { found = was.found; named = was.named }

  line-same : (x y : ℕ) → line_at (notices_between later l) p x y ≡ line_at (notices_between s l) p x y
  line-same x y = ap (told_by_all (node_at p (suc x)) (link_at p x)) (notices-same (node_at p (suc y)) (node_at p y))

  way-same : (x : ℕ) → on_the_way (line_at (notices_between later l) p x) (suc x)
      ≡ on_the_way (line_at (notices_between s l) p x) (suc x)
  way-same x =
      same_lines (line_at (notices_between s l) p x) (line_at (notices_between later l) p x) (suc x)
      (λ y less. line-same x y)

  -- Places

  stands-before : (x : ℕ) → x ≤ i → (y : ℕ) → x ≤ y → StandsUpTo later l p y → StandsUpTo s l p x
  stands-before x near y most stands z less =
      subst (λ v. is_standing v ≡ true) (place-else z (let b = below in omega arith) (omega arith))
      (stands z (omega arith))

  -- a place before
  before-told : (x : ℕ) → x < i → StandsUpTo later l p (suc x) → (c : CallRec) → CallOf later l c
      → PlaceTold t later l p x c
  before-told x less stands c of =
      ap (told (has_fibre (reports_of l c) (fibre_at t p x))) (way-same x)
      ∙ r.tells x (let b = below in omega arith) (stands-before (suc x) (omega arith) (suc x) (omega arith) stands) c
      (call-same c of)
      ∙ ap (λ ds. has_fibre ds (fibre_at t p x)) (sym (down-same (node_at p (suc x)).0))

  -- the leg that comes
  over-clear : is_standing (leg_at later l (node_at p (suc i))) ≡ true →
      has_fibre (s.nodes (node_at p (suc i)).0).down (fibre_at t p i) ≡ false
  over-clear stands =
      subst (λ f. has_fibre (s.nodes (node_at p (suc i)).0).down f ≡ false)
      (path_rule.enters t q s l p i pl.route pl.chain below e k steps set label purpose rest was learnt plain)
      (clear-first_path place (s.nodes d.0) asks l over.link came)
    where
      over : LinkLeads t k (node_at p i) (node_at p (suc i))
      over = path_rule.over t q s l p i pl.route pl.chain below e k steps set label purpose rest was learnt plain

      link-is : own_link (local_node t (node_at p (suc i))) k ≡ Some over.link
      link-is = own_far t k (node_at p i) (node_at p (suc i)) far over

      after-is : leg_at later l (node_at p (suc i)) ≡ leg_after l answer.legs None
      after-is =
          leg-here (without_first s u.0 d.0) d l answer ∙ ap (leg_after l answer.legs) none

      came : is_standing (leg_after l (first_path (local_node t (node_at p (suc i)))
          (s.nodes (node_at p (suc i)).0) asks (Some over.link)).legs None) ≡ true
      came =
          subst (λ x. is_standing (leg_after l (first_path (local_node t (node_at p (suc i)))
          (s.nodes (node_at p (suc i)).0) asks x).legs None) ≡ true) link-is
          (subst (λ (a : Answer). is_standing (leg_after l a.legs None) ≡ true) path-is
          (subst (λ x. is_standing x ≡ true) after-is stands))

  here-told : StandsUpTo later l p (suc i) → (c : CallRec) → CallOf later l c → PlaceTold t later l p i c
  here-told stands c of =
      let before = unreached (stands-before i (omega arith) (suc i) (omega arith) stands) in
      let untold = before.untold i (omega arith) below in
      ap (told (has_fibre (reports_of l c) (fibre_at t p i)))
      (way-same i ∙ silent-way (line_at (notices_between s l) p i) (suc i)
      (λ y less. untold.notices (node_at p (suc y)) (node_at p y)))
      ∙ untold.report c (call-same c of)
      ∙ sym (ap (λ ds. has_fibre ds (fibre_at t p i)) (down-same (node_at p (suc i)).0)
      ∙ over-clear (stands (suc i) (omega arith)))

  after-never : (x : ℕ) → suc i < x → x ≤ hops p → StandsUpTo later l p x → ⊥
  after-never x less small stands =
      let gone : leg_at s l (node_at p (suc (suc i))) ≡ None =
      (unreached (stands-before i (omega arith) x (omega arith) stands)).gone (suc i) (omega arith) (omega arith) in
      let now : leg_at later l (node_at p (suc (suc i))) ≡ None =
      place-else (suc (suc i)) (omega arith) (omega arith) ∙ gone in
      let stand = stands (suc (suc i)) (omega arith) in
      (let h = (rw now at stand) in cc h)

  -- Paths

  untold-same : (x : ℕ) → Untold t s l p x → Untold t later l p x
  untold-same x untold = record {
    notices = λ a b. ap (told_by_all (node_at p (suc x)) (link_at p x)) (notices-same a b) ∙ untold.notices a b;
    report = λ c of. untold.report c (call-same c of);
  }

  unreached-after : (x : ℕ) → suc i ≤ x → IsUnreached t s l p x → IsUnreached t later l p x
  unreached-after x after un = record {
    gone = λ y most small. place-else (suc y) (omega arith) (omega arith) ∙ un.gone y most small;
    untold = λ y most small. untold-same y (un.untold y most small);
  }

  first-later : (x : ℕ) → x < hops p → StandsUpTo later l p x →
      is_first_under_way later l (node_at p x) (node_at p (suc x)) ≡ true → IsUnreached t later l p x
  first-later x small stands sent = go (is_or_not x i) (is_or_not x (suc i))
    where
      last : has_path (messages_of l rest) ≡ false
      last = path_rule.last t q s l p i pl.route pl.chain below e k steps set label purpose rest was learnt plain none

      go : (x ≡ i) ⊎ (x ≢ i) → (x ≡ suc i) ⊎ (x ≢ suc i) → IsUnreached t later l p x
      go (inl at) _ =
          let left : mail_between later l (node_at p i) (node_at p (suc i)) ≡ messages_of l rest =
          left-taken s u d l answer m rest far was in
          let has-i : has_plain (mail_between later l (node_at p i) (node_at p (suc i))) ≡ true =
          subst (λ y. has_plain (mail_between later l (node_at p y) (node_at p (suc y))) ≡ true) at
          (and-right (is_waiting (leg_at later l (node_at p x))) _ sent) in
          let path = plain-path (messages_of l rest) (ap has_plain (sym left) ∙ has-i) in
          absurd (let never = last in cc (never, path))
      go (inr apart) (inl next) =
          let before = unreached (stands-before i (omega arith) x (omega arith) stands) in
          unreached-after x (omega arith) (record {
            gone = λ y most less. before.gone y (omega arith) less;
            untold = λ y most less. before.untold y (omega arith) less;
          })
      go (inr apart) (inr not-next) = elsewhere (cases_lt x i)
        where
          same-mail : mail_between later l (node_at p x) (node_at p (suc x))
              ≡ mail_between s l (node_at p x) (node_at p (suc x))
          same-mail =
              elsewhere-taken s u d (node_at p x) (node_at p (suc x)) l answer
              (distinct t l.ingress p pl.route x (suc i) (omega arith) (let b = below in omega arith) not-next)
              (inl (distinct t l.ingress p pl.route x i (omega arith) (let b = below in omega arith) apart))

          was-there : is_first_under_way s l (node_at p x) (node_at p (suc x)) ≡ true
          was-there =
              ap (λ o. is_waiting o && has_plain (mail_between s l (node_at p x) (node_at p (suc x))))
              (sym (place-else x (omega arith) not-next))
              ∙ ap (λ ms. is_waiting (leg_at later l (node_at p x)) && has_plain ms) (sym same-mail) ∙ sent

          elsewhere : (x < i) ⊎ (i ≤ x) → IsUnreached t later l p x
          elsewhere (inl less) = absurd (alone x less (stands-before x (omega arith) x (omega arith) stands) was-there)
          elsewhere (inr most) = absurd (after-never x (omega arith) (omega arith) stands)

  pub first_path-told : RouteTold t later l p
  first_path-told = record {
    tells = λ x small stands c of. elim (is_or_not x i) [
      | inl at ↦ subst (λ y. PlaceTold t later l p y c) (sym at)
          (here-told (subst (λ y. StandsUpTo later l p (suc y)) at stands) c of)
      | inr apart ↦ elim (cases_lt x i) [
        | inl less ↦ before-told x less stands c of
        | inr most ↦ absurd (after-never (suc x) (omega arith) small stands)
      ]
    ];
    first = first-later;
  }

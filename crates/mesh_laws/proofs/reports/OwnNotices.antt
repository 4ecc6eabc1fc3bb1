-- The rule of a Notify, at its own LSP: what the LSP's reports tell stays.
use Rattle.std.proofs.Common.{◌≡◌, ◌<◌, ℕ, zero, suc, Bool, true, false, cond, nat_eq, nat_lt, List, ◌∷◌, refl, sym, ap, ◌∙◌, subst, arith}
use Rattle.std.specs.Prelude.{Option, Some, None}
use Rattle.ason_base.specs.{Lsps.{has_fibre, same_fibre}, Network.{Network, find_link}, declared.codes.ErrCode.ErrCode, declared.ids.LinkId.LinkId, declared.ids.Lsp.Lsp, declared.ids.NodeId.NodeId, declared.messages.Msg.Msg, declared.messages.Msg.TheVariants.Notify, declared.network.LinkSpec.LinkSpec, declared.steps.Step.Step, declared.tables.CallRec.CallRec, declared.tables.Leg.Leg}
use Rattle.ason_base.proofs.{Numbers.self-number, JoinedEnds.same-node}
use Rattle.mesh_rules.specs.{Calls.{call_with, calls_changed, find_call, with_call}, Changes.{Answer, nothing}, Legs.{find_leg, following, is_closing, is_node, leg_of, previous}, LocalNodes.local_node, Machine.{Mesh, commit, without_first}, Messages.on_message, Notifies.{Notice, notice_passed, notify_with}, Pairs.route_from, Reports.{call_reported, fibre_into, fibres_after, report_here, reported_on, with_report}, State.NodeState, Turns.decide}
use Rattle.mesh_nodes.proofs.CallList.{called-found, called-names, find-with_call, not_called}
use Rattle.lsp_laws.specs.{HopLaw.leg_at, ReportLaw.{is_standing, reports_of}}
use Rattle.lsp_laws.proofs.{nodes.Facts.NodeFacts, hops.Chain.LegFitsPlan, hops.LegChanges.{following_is, previous_is, previous_none}, hops.Paired.along, hops.Notices.ComesUp, hops.Planned.{Planned, Routes}, hops.Plans.{Plan, fibre_at, hops, link_at, node_at, plan}, hops.Purposes.Purpose}
use Rattle.mesh_laws.proofs.{reports.GentleWords.{CallOf, IsGentle, RouteTold, Still, gentle-told}, reports.Gentle.{commit-gentle, commit-still, notices-after}, reports.AnswerParts.nothing-gentle, reports.GentleAnswers.{IfStands, decide-gentle}, reports.StandingCalls.leg-stands, reports.NoticeTaken.{NoticeCame, dropped-told, up}, reports.NoticeArrives.here-told, reports.NoticeSteps.passed-told, reports.Reported.{PutsReported, decide-puts, fibres-after, forward-is, into-found, into-is, into_at, low-first, report-after, report-call}}

-- a link's low end has the lesser number
abbrev pub LowFirst : Network → Type 0
LowFirst t = (k : LinkId) (l : LinkSpec) → find_link t k ≡ Some l → nat_lt l.low.0 l.high.0 ≡ true

module _ (t : Network) (low : LowFirst t) (s : Mesh) (o : Routes) (d u : NodeId) (l : Lsp) (e : NodeId) (at : NodeId)
    (k : LinkId) (code : ErrCode) (rest : List Msg) (was : s.mail u.0 d.0 ≡ Notify l e at k code ∷ rest)
    (facts : NodeFacts d.0 (s.nodes d.0)) (q : Purpose) (route : List Step) (end : NodeId)
    (pl : Planned t s o l q (plan route end)) (r : RouteTold t s l (plan route end)) where
  abbrev p : Plan
  p = plan route end

  abbrev came : NoticeCame t s o
  came = record {
    d = d;
    u = u;
    l = l;
    e = e;
    at = at;
    k = k;
    code = code;
    rest = rest;
    was = was;
    q = q;
    p = p;
    pl = pl;
    r = r;
  }

  abbrev taken : Mesh
  taken = without_first s u.0 d.0

  abbrev notice : Notice
  notice = record { lsp = l; msg = Notify l e at k code; at = at; link = k; code = code }

  abbrev Stays : Answer → Type 0
  Stays a = RouteTold t (commit (without_first s u.0 d.0) d.0 a) l (plan route end)

  abbrev up-here : ComesUp (plan route end) u d (Notify l e at k code)
  up-here = up t s o came

  d-is : d ≡ node_at (plan route end) up-here.place
  d-is = same-node d (node_at (plan route end) up-here.place) up-here.to

  -- the LSP doesn't stand at this node
  torn-stays : (is_standing (leg_at s l d) ≡ true → ⊥) → Stays nothing
  torn-stays torn =
      gentle-told t taken (commit taken d.0 nothing) l p
      (commit-gentle taken d l nothing (nothing-gentle (taken.nodes d.0) l))
      (dropped-told t s o came
      (λ i stands reached. torn (subst (λ n. is_standing (leg_at s l n)
      ≡ true) (sym d-is) (stands up-here.place reached))))

  -- The fibre at the ingress

  module _ (g : Leg) (found : leg_at s l d ≡ Some g) where
    at-place : leg_at s l (node_at (plan route end) up-here.place) ≡ Some g
    at-place = subst (λ n. leg_at s l n ≡ Some g) d-is found

    fits : LegFitsPlan t q l (plan route end) up-here.place g
    fits = rw at-place at (pl.chain.fits up-here.place (let below = up-here.below in omega arith))

    follows-u : is_node (following g) u ≡ true
    follows-u =
        let next = following_is t q l (plan route end) up-here.place g fits up-here.below in
        let number : (node_at (plan route end) (suc up-here.place)).0 ≡ u.0 = sym up-here.from in
        rw (next, number) (self-number u.0)

    abbrev z : ℕ
    z = up-here.names.place

    fibre-is : into_at route end up-here.names.place ≡ fibre_at t (plan route end) up-here.names.place
    fibre-is =
        into-is route end z up-here.names.within ∙ (λ i. record { link = link_at p z; forward = direction i })
      where
        direction : nat_lt (node_at p up-here.names.place).0 (node_at p (suc up-here.names.place)).0
            ≡ (fibre_at t p up-here.names.place).forward
        direction =
            low-first t l.ingress p pl.route z up-here.names.within
            (low (link_at p z) (pl.route.links z up-here.names.within).link
            (pl.route.links z up-here.names.within).found)
            ∙ sym (forward-is t l.ingress p pl.route z up-here.names.within)

    -- at the ingress
    module _ (place : up-here.place ≡ 0) where
      first-fits : LegFitsPlan t q l (plan route end) 0 g
      first-fits = subst (λ x. LegFitsPlan t q l (plan route end) x g) place fits

      ingress-is : l.ingress ≡ d
      ingress-is = sym pl.route.first ∙ ap (node_at p) (sym place) ∙ sym d-is

      fibre-found : fibre_into (route_from (local_node t d) g) g.egress at k ≡ Some (fibre_at t (plan route end) z)
      fibre-found =
          let whole : route_from (local_node t d) g ≡ route = along t l q d end route g ingress-is pl.route
          first-fits in
          let last : g.egress ≡ end = fits.egress in
          rw (whole, last)
          (ap (λ n. fibre_into route end n k) up-here.names.node
          ∙ ap (λ x. fibre_into route end (node_at p (suc z)) x) up-here.names.link
          ∙ into-found route end z pl.route.apart up-here.names.within ∙ ap Some fibre-is)

      abbrev state : NodeState
      state = s.nodes d.0

      -- what the report makes of the call
      module _ (c : CallRec) (called : call_with l (s.nodes d.0).calls ≡ Some c) where
        abbrev after : CallRec
        after = with_report c l up-here.names.down (fibre_at t (plan route end) up-here.names.place)

        abbrev answer : Answer
        answer = decide (s.nodes d.0).legs
            (with_report c l up-here.names.down (fibre_at t (plan route end) up-here.names.place))
            (leg_of c.back (s.nodes d.0).legs)

        abbrev with-it : NodeState
        with-it = record (s.nodes d.0) {
          calls = with_call (with_report c l up-here.names.down (fibre_at t (plan route end) up-here.names.place))
              (s.nodes d.0).calls;
        }

        -- its leg and its messages, as those of a call that has the report already
        gentle : IsGentle with-it l answer
        gentle =
            decide-gentle with-it l after
            (find-with_call after state.calls after.call ∙ rw (self-number after.call.0) refl) state.legs after
            (leg_of c.back state.legs) refl (λ named. (named, refl)) stands
          where
            stands : IfStands with-it (leg_of c.back (s.nodes d.0).legs)
            stands b is =
                let back = leg-stands (local_node t d) (s.nodes d.0) facts l c.back b is in
                record { found = back.found; activates = back.activates }

        still : Still taken (commit taken d.0 answer) l
        still = commit-still taken d l answer gentle.legs gentle.sent gentle.active gentle.down

        own-call : CallOf s l c
        own-call = record {
          found = subst (λ n. find_call c.call (s.nodes n).calls ≡ Some c) (sym (ap (λ (x : NodeId). x.0) ingress-is))
              (called-found l state.calls c facts.calls_rise called);
          named = called-names l state.calls c called;
        }

        calls : (x : CallRec) → CallOf (commit taken d.0 answer) l x → (b : CallRec) × CallOf s l b × ((i : ℕ) →
            i < hops (plan route end) → has_fibre (reports_of l x) (fibre_at t (plan route end) i)
            ≡ cond (same_fibre (fibre_at t (plan route end) i)
            (fibre_at t (plan route end) up-here.names.place)) up-here.names.down
            (has_fibre (reports_of l b) (fibre_at t (plan route end) i)))
        calls x of = (
          c,
          own-call,
          λ i small. (
              ap (λ fs. has_fibre fs (fibre_at t p i)) (reports-are (sym (find-with_call puts.put state.calls x.call)
              ∙ found-x))
              ∙ fibres-after up-here.names.down (fibre_at t p z) (reports_of l c) (fibre_at t p i)),
        )
          where
            puts : PutsReported l after answer
            puts = decide-puts l (s.nodes d.0).legs after (leg_of c.back (s.nodes d.0).legs)

            here : nat_eq l.ingress.0 d.0 ≡ true
            here = rw ingress-is (self-number d.0)

            found-x : find_call x.call (with_call puts.put (s.nodes d.0).calls) ≡ Some x
            found-x =
                let at : find_call x.call (calls_changed answer.calls (s.nodes l.ingress.0).calls) ≡ Some x =
                (rw here at of.found) in
                let there = subst (λ n. find_call x.call (calls_changed answer.calls (s.nodes n).calls) ≡ Some x)
                (ap (λ (n : NodeId). n.0) ingress-is) at in
                subst (λ cs. find_call x.call (calls_changed cs (s.nodes d.0).calls) ≡ Some x) puts.calls there

            numbers : puts.put.call ≡ c.call
            numbers = puts.number ∙ report-call c l up-here.names.down (fibre_at t p z)

            reports-are : cond (nat_eq puts.put.call.0 x.call.0) (Some puts.put)
                (find_call x.call (s.nodes d.0).calls) ≡ Some x →
                reports_of l x ≡ fibres_after up-here.names.down (fibre_at t p up-here.names.place) (reports_of l c)
            reports-are = go (nat_eq puts.put.call.0 x.call.0) refl
              where
                go : (b : Bool) → nat_eq puts.put.call.0 x.call.0 ≡ b →
                    cond b (Some puts.put) (find_call x.call (s.nodes d.0).calls) ≡ Some x →
                    reports_of l x ≡ fibres_after up-here.names.down (fibre_at t p up-here.names.place) (reports_of l c)
                go true q is =
                    let one : puts.put ≡ x = cc is in
                    ap (reports_of l) (sym one) ∙ puts.reports ∙ report-after c l up-here.names.down (fibre_at t p z)
                go false q is =
                    let same-call : c.call ≡ x.call =
                    facts.one_call l c.call x.call c x (called-found l state.calls c facts.calls_rise called) is
                    (called-names l state.calls c called) of.named in
                    let equal : nat_eq puts.put.call.0 x.call.0 ≡ true =
                    rw (numbers, same-call) (self-number x.call.0) in
                    absurd (cc (equal, q))

        told-stays : Stays answer
        told-stays =
            here-told t s o came place (commit taken d.0 answer) still
            (notices-after taken d l answer gentle.legs gentle.sent gentle.active gentle.down) calls

      uncalled-stays : call_with l (s.nodes d.0).calls ≡ None → Stays nothing
      uncalled-stays none =
          here-told t s o came place (commit taken d.0 nothing)
          (commit-still taken d l nothing (nothing-gentle (taken.nodes d.0) l).legs tt (λ waits. tt) refl)
          (notices-after taken d l nothing (nothing-gentle (taken.nodes d.0) l).legs tt (λ waits. tt) refl)
          (λ x of. absurd (never x of))
        where
          never : (x : CallRec) → CallOf (commit taken d.0 nothing) l x → ⊥
          never x of =
              let here : nat_eq l.ingress.0 d.0 ≡ true = rw ingress-is (self-number d.0) in
              let at : find_call x.call (s.nodes l.ingress.0).calls ≡ Some x = (rw here at of.found) in
              let there = subst (λ n. find_call x.call (s.nodes n).calls
              ≡ Some x) (ap (λ (n : NodeId). n.0) ingress-is) at in
              not_called l (s.nodes d.0).calls x.call x none there of.named

      call-stays : (c : Option CallRec) → call_with l (s.nodes d.0).calls ≡ c →
          Stays (call_reported (s.nodes d.0) l up-here.names.down (fibre_at t (plan route end) up-here.names.place) c)
      call-stays None called = uncalled-stays called
      call-stays (Some c) called = told-stays c called

      report-stays : Stays (report_here (local_node t d) (s.nodes d.0) g at k up-here.names.down)
      report-stays =
          let own : g.lsp ≡ l = fits.own in
          subst (λ x. Stays (reported_on (s.nodes d.0) g up-here.names.down x)) (sym fibre-found)
          (subst (λ j. Stays (call_reported (s.nodes d.0) j up-here.names.down (fibre_at t p z)
          (call_with j (s.nodes d.0).calls))) (sym own) (call-stays (call_with l (s.nodes d.0).calls) refl))

    passes : (x : ℕ) → up-here.place ≡ x →
        Stays (notice_passed (local_node t d) (s.nodes d.0) notice g up-here.names.down (previous g))
    passes zero place =
        rw (previous_none t q l (plan route end) g (first-fits place)) (report-stays place)
    passes (suc j) place =
        rw (previous_is t q l (plan route end) j g (subst (λ x. LegFitsPlan t q l (plan route end) x g) place fits))
        (passed-told t s o came j place (node_at p j) refl)

    stays-standing : (b : Bool) → is_closing g.phase ≡ b →
        Stays (notify_with (local_node t d) (s.nodes d.0) u notice (Some g))
    stays-standing true closing =
        rw closing (torn-stays (λ stands. let h = (rw (found, closing) at stands) in cc h))
    stays-standing false standing =
        rw (standing, follows-u, up-here.names.tells) (passes up-here.place refl)

  pub own_notice-told : Stays (on_message (local_node t d) (s.nodes d.0) u (Notify l e at k code))
  own_notice-told = go (find_leg l (s.nodes d.0).legs) refl
    where
      go : (x : Option Leg) → find_leg l (s.nodes d.0).legs ≡ x →
          Stays (notify_with (local_node t d) (s.nodes d.0) u notice x)
      go None none = torn-stays (λ stands. let h = (rw none at stands) in cc h)
      go (Some g) found = stays-standing g found (is_closing g.phase) refl

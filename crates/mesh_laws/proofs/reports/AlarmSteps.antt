-- An alarm or a clear keeps what the reports of each LSP tell.
use Rattle.std.proofs.Common.{◌≡◌, ◌≢◌, ◌<◌, ℕ, suc, Bool, true, false, cond, nat_eq, not, List, [], ◌∷◌, ◌++◌, refl, sym, ap, ◌∙◌, subst, arith, inl, inr, append-nil}
use Rattle.std.specs.Prelude.{◌&&◌, ◌||◌, Option, Some, None}
use Rattle.ason_base.specs.{Codes.{fibre_down_code, fibre_up_code}, Lsps.{has_fibre, same_fibre, without_fibre}, Network.Network, declared.codes.ErrCode.ErrCode, declared.ids.Fibre.Fibre, declared.ids.Lsp.Lsp, declared.ids.NodeId.NodeId, declared.tables.CallRec.CallRec, declared.tables.Leg.Leg}
use Rattle.ason_base.proofs.{LspOrder.same_fibre-eq, JoinedEnds.same-node}
use Rattle.mesh_rules.specs.{Alarms.{enters, is_hit, knows_down, notice_of, notices, on_alarm, on_clear}, Changes.{Answer, nothing}, Legs.{find_leg, is_closing, previous}, LocalNodes.{LocalNode, local_node, own_link}, Machine.{Mesh, commit, sent_to}, Reports.reported}
use Rattle.mesh_nodes.specs.Order.{LegsRise}
use Rattle.mesh_nodes.proofs.{Cases.if_cases, LegList.same_lsp-refl}
use Rattle.lsp_laws.specs.{HopLaw.{leg_at, mail_between, notices_between, notices_of}, ReportLaw.{is_standing, on_the_way, reports_of, told, told_by_all}}
use Rattle.lsp_laws.proofs.{hops.Chain.{LegFitsPlan, is_or_not}, hops.LegChanges.previous_is, hops.NoticesTold.{all_notices, still_notified}, hops.Planned.{Planned, Routes}, hops.Plans.{Plan, distinct, fibre_at, hops, link_at, node_at}, hops.Purposes.Purpose, hops.Views.{notices-else, notices-from}}
use Rattle.mesh_laws.proofs.{reports.Alarmed.{elsewhere-told, hit-told, missed-told, none-told, one-told, told-all-append}, reports.GentleWords.{CallOf, PlaceTold, RouteTold, StandsUpTo, Untold, call-before, gentle-told, has_plain, is_waiting, line_at}, reports.Gentle.commit-gentle, reports.AnswerParts.nothing-gentle, reports.KnownFibres.{has-less, has-more}, reports.OnTheWay.{same_lines, sent_told}}

module _ (t : Network) (s : Mesh) (n : NodeId) (o : Routes) (f : Fibre) (code : ErrCode) (down : Bool)
    (tells : reported code ≡ Some down) (fibres : List Fibre)
    (known : (g : Fibre) → has_fibre fibres g ≡ cond (same_fibre g f) down (has_fibre (s.nodes n.0).down g))
    (rise : LegsRise (s.nodes n.0).legs) (l : Lsp) (q : Purpose) (p : Plan) (pl : Planned t s o l q p)
    (r : RouteTold t s l p) where
  abbrev place : LocalNode
  place = local_node t n

  abbrev answer : Answer
  answer = knows_down (local_node t n) (s.nodes n.0) f code fibres

  abbrev later : Mesh
  later = commit s n.0 (knows_down (local_node t n) (s.nodes n.0) f code fibres)

  -- What stays

  leg-same : (m : NodeId) → leg_at later l m ≡ leg_at s l m
  leg-same =
      (still_notified s n answer l
      (record { legs = refl; numbers = refl; sent = all_notices place f code (s.nodes n.0).legs })).legs

  mail-same : (a b : NodeId) → mail_between later l a b ≡ mail_between s l a b
  mail-same =
      (still_notified s n answer l
      (record { legs = refl; numbers = refl; sent = all_notices place f code (s.nodes n.0).legs })).mail

  call-same : (c : CallRec) → CallOf later l c → CallOf s l c
  call-same c of = call-before s n.0 answer l c (λ found. found) of

  known-elsewhere : (m : NodeId) → m.0 ≢ n.0 → (later.nodes m.0).down ≡ (s.nodes m.0).down
  known-elsewhere m apart = let far : nat_eq m.0 n.0 ≡ false = grind arith in rw far refl

  known-here : (later.nodes n.0).down ≡ fibres
  known-here = let here : nat_eq n.0 n.0 ≡ true = grind arith in rw here refl

  -- Lines

  -- what is told to b of the fibre that comes in at place i
  abbrev news : ℕ → NodeId → List Bool
  news i b = told_by_all (node_at p (suc i)) (link_at p i)
      (notices_of l (sent_to b.0 (notices (local_node t n) f code (s.nodes n.0).legs)))

  told-from : (i : ℕ) (a b : NodeId) → a.0 ≡ n.0 →
      told_by_all (node_at p (suc i)) (link_at p i) (notices_between later l a b)
      ≡ told_by_all (node_at p (suc i)) (link_at p i) (notices_between s l a b) ++ news i b
  told-from i a b e =
      let is : a ≡ n = same-node a n e in
      subst (λ (x : NodeId). told_by_all (node_at p (suc i)) (link_at p i) (notices_between later l x b)
      ≡ told_by_all (node_at p (suc i)) (link_at p i) (notices_between s l x b) ++ news i b) (sym is)
      (ap (told_by_all (node_at p (suc i)) (link_at p i)) (notices-from s n b l answer)
      ∙ told-all-append (node_at p (suc i)) (link_at p i) (notices_between s l n b)
      (notices_of l (sent_to b.0 answer.sent)))

  told-else : (i : ℕ) (a b : NodeId) → a.0 ≢ n.0 →
      told_by_all (node_at p (suc i)) (link_at p i) (notices_between later l a b)
      ≡ told_by_all (node_at p (suc i)) (link_at p i) (notices_between s l a b)
  told-else i a b apart =
      ap (told_by_all (node_at p (suc i)) (link_at p i)) (notices-else s n a b l answer apart)

  -- where nothing is told of the place, what is on the way is as before
  told-same : (i : ℕ) → ((b : NodeId) → news i b ≡ []) → (a b : NodeId) →
      told_by_all (node_at p (suc i)) (link_at p i) (notices_between later l a b)
      ≡ told_by_all (node_at p (suc i)) (link_at p i) (notices_between s l a b)
  told-same i silent a b = elim (is_or_not a.0 n.0) [
    | inl e ↦ told-from i a b e ∙ rw (silent b) (append-nil _)
    | inr apart ↦ told-else i a b apart
  ]

  silent-away : (i : ℕ) → (node_at p (suc i)).0 ≢ n.0 → (b : NodeId) → news i b ≡ []
  silent-away i apart b =
      let far : nat_eq n.0 (node_at p (suc i)).0 ≡ false = grind arith in
      elsewhere-told place f code down tells l b (node_at p (suc i)) (link_at p i) (s.nodes n.0).legs (rw far refl)

  same-way : (i : ℕ) → ((b : NodeId) → news i b ≡ []) →
      on_the_way (line_at (notices_between later l) p i) (suc i)
      ≡ on_the_way (line_at (notices_between s l) p i) (suc i)
  same-way i silent =
      same_lines (line_at (notices_between s l) p i) (line_at (notices_between later l) p i) (suc i)
      (λ j small. told-same i silent (node_at p (suc j)) (node_at p j))

  stands-before : (i : ℕ) → StandsUpTo later l p i → StandsUpTo s l p i
  stands-before i stands j most = subst (λ x. is_standing x ≡ true) (leg-same (node_at p j)) (stands j most)

  -- nothing is told of the place, and what is known there stays
  quiet-told : (i : ℕ) (small : i < hops p) (stands : StandsUpTo later l p (suc i)) (c : CallRec) → CallOf later l c →
      ((b : NodeId) → news i b ≡ []) →
      has_fibre (later.nodes (node_at p (suc i)).0).down (fibre_at t p i)
      ≡ has_fibre (s.nodes (node_at p (suc i)).0).down (fibre_at t p i) → PlaceTold t later l p i c
  quiet-told i small stands c of silent same =
      ap (told (has_fibre (reports_of l c) (fibre_at t p i))) (same-way i silent)
      ∙ r.tells i small (stands-before (suc i) stands) c (call-same c of) ∙ sym same

  -- At the node itself

  -- the leg there, which stands
  standing-leg : (m : NodeId) → is_standing (leg_at s l m) ≡ true →
      (g : Leg) × (leg_at s l m ≡ Some g) × (is_closing g.phase ≡ false)
  standing-leg m stands = go (leg_at s l m) refl stands
    where
      upright : (b : Bool) → not b ≡ true → b ≡ false
      upright true e = absurd (cc e)
      upright false e = refl

      go : (x : Option Leg) → leg_at s l m ≡ x → is_standing x ≡ true →
          (g : Leg) × (leg_at s l m ≡ Some g) × (is_closing g.phase ≡ false)
      go None e h = absurd (cc h)
      go (Some g) e h = (g, e, upright (is_closing g.phase) h)

  module _ (i : ℕ) (small : i < hops p) (here : (node_at p (suc i)).0 ≡ n.0) (g : Leg)
      (found : leg_at s l (node_at p (suc i)) ≡ Some g) (upright : is_closing g.phase ≡ false) where
    fits : LegFitsPlan t q l p (suc i) g
    fits = rw found at (pl.chain.fits (suc i) small)

    at-n : find_leg l (s.nodes n.0).legs ≡ Some g
    at-n = subst (λ k. find_leg l (s.nodes k).legs ≡ Some g) here found

    one : (b : NodeId) → news i b ≡ told_by_all (node_at p (suc i)) (link_at p i)
        (notices_of l (sent_to b.0 (notice_of place f code g)))
    one b = one-told place f code down tells l b (node_at p (suc i)) (link_at p i) (s.nodes n.0).legs g rise at-n

    on-fibre : (b : Bool) → same_fibre (fibre_at t p i) f ≡ b → is_hit f g ≡ b
    on-fibre b e = (let fibre = fits.in_fibre in rw (fibre, e, upright) (last b))
      where
        last : (b : Bool) → (b && true) ≡ b
        last true = refl
        last false = refl

    before : previous g ≡ Some (record { node = node_at p i; fibre = fibre_at t p i })
    before = previous_is t q l p i g fits

    hit : same_fibre (fibre_at t p i) f ≡ true → news i (node_at p i) ≡ down ∷ []
    hit e =
        let own : g.lsp ≡ l = fits.own in
        let same : fibre_at t p i ≡ f = same_fibre-eq (fibre_at t p i) f e in
        one (node_at p i)
        ∙ hit-told place f code down tells l (node_at p i) (node_at p (suc i)) (link_at p i) g
        (record { node = node_at p i; fibre = fibre_at t p i }) (rw own (same_lsp-refl l)) (on-fibre true e) before refl
        (sym here) (ap (λ (x : Fibre). x.link.0) (sym same))

    missed : same_fibre (fibre_at t p i) f ≡ false → (b : NodeId) → news i b ≡ []
    missed e b =
        one b ∙ missed-told place f code down tells l b (node_at p (suc i)) (link_at p i) g (on-fibre false e)

    -- the line of the place gets what is told, the others stay
    own-line : line_at (notices_between later l) p i i ≡ line_at (notices_between s l) p i i ++ news i (node_at p i)
    own-line = told-from i (node_at p (suc i)) (node_at p i) here

    other-line : (k : ℕ) → k ≢ i → k < suc i →
        line_at (notices_between later l) p i k ≡ line_at (notices_between s l) p i k
    other-line k apart less =
        told-else i (node_at p (suc k)) (node_at p k)
        (λ e. distinct t l.ingress p pl.route (suc k) (suc i) (omega arith) small (omega arith) (e ∙ sym here))

    here-told : (stands : StandsUpTo later l p (suc i)) (c : CallRec) → CallOf later l c → (b : Bool) →
        same_fibre (fibre_at t p i) f ≡ b → PlaceTold t later l p i c
    here-told stands c of true e =
        sent_told (line_at (notices_between s l) p i) (line_at (notices_between later l) p i) i
        (has_fibre (reports_of l c) (fibre_at t p i)) down
        (own-line ∙ ap (λ x. line_at (notices_between s l) p i i ++ x) (hit e))
        (λ k apart less. other-line k apart less)
        ∙ sym (now ∙ rw e refl)
      where
        now : has_fibre (later.nodes (node_at p (suc i)).0).down (fibre_at t p i)
            ≡ cond (same_fibre (fibre_at t p i) f) down (has_fibre (s.nodes n.0).down (fibre_at t p i))
        now =
            subst (λ k. has_fibre (later.nodes k).down (fibre_at t p i)
            ≡ cond (same_fibre (fibre_at t p i) f) down (has_fibre (s.nodes n.0).down (fibre_at t p i))) (sym here)
            (ap (λ ds. has_fibre ds (fibre_at t p i)) known-here ∙ known (fibre_at t p i))
    here-told stands c of false e =
        quiet-told i small stands c of (missed e)
        (subst (λ k. has_fibre (later.nodes k).down (fibre_at t p i)
        ≡ has_fibre (s.nodes k).down (fibre_at t p i)) (sym here)
        (ap (λ ds. has_fibre ds (fibre_at t p i)) known-here ∙ known (fibre_at t p i) ∙ rw e refl))

  tells-later : (i : ℕ) → i < hops p → StandsUpTo later l p (suc i) → (c : CallRec) → CallOf later l c →
      PlaceTold t later l p i c
  tells-later i small stands c of = elim (is_or_not (node_at p (suc i)).0 n.0) [
    | inr apart ↦ quiet-told i small stands c of (silent-away i apart)
        (ap (λ ds. has_fibre ds (fibre_at t p i)) (known-elsewhere (node_at p (suc i)) apart))
    | inl here ↦ (
        let leg = standing-leg (node_at p (suc i)) (stands-before (suc i) stands (suc i) (omega arith)) in
        here-told i small here leg.0 leg.1 leg.2 stands c of (same_fibre (fibre_at t p i) f) refl)
  ]

  untold-later : (j : ℕ) → leg_at s l (node_at p (suc j)) ≡ None → Untold t s l p j → Untold t later l p j
  untold-later j gone u = record {
    notices = λ a b. told-same j silent a b ∙ u.notices a b;
    report = λ c of. u.report c (call-same c of);
  }
    where
      silent : (b : NodeId) → news j b ≡ []
      silent b = elim (is_or_not (node_at p (suc j)).0 n.0) [
        | inr apart ↦ silent-away j apart b
        | inl here ↦ none-told place f code down tells l b (node_at p (suc j)) (link_at p j) (s.nodes n.0).legs
            (subst (λ k. find_leg l (s.nodes k).legs ≡ None) here gone)
      ]

  pub alarm-told : RouteTold t later l p
  alarm-told = record {
    tells = tells-later;
    first = λ i small stands sent. (
        let was = r.first i small (stands-before i stands)
        (ap (λ o. is_waiting o && has_plain (mail_between s l (node_at p i) (node_at p (suc i))))
        (sym (leg-same (node_at p i)))
        ∙ ap (λ ms. is_waiting (leg_at later l (node_at p i)) && has_plain ms)
        (sym (mail-same (node_at p i) (node_at p (suc i)))) ∙ sent) in
        record {
          gone = λ j after below. leg-same (node_at p (suc j)) ∙ was.gone j after below;
          untold = λ j after below. untold-later j (was.gone j after below) (was.untold j after below);
        });
  }

-- Alarms and clears

or_cond : (a b : Bool) → (a || b) ≡ cond b true a
or_cond true true = refl
or_cond true false = refl
or_cond false true = refl
or_cond false false = refl

not_cond : (a b : Bool) → (not b && a) ≡ cond b false a
not_cond a true = refl
not_cond a false = refl

module _ (t : Network) (s : Mesh) (n : NodeId) (o : Routes) (rise : LegsRise (s.nodes n.0).legs) (l : Lsp)
    (q : Purpose) (p : Plan) (pl : Planned t s o l q p) (r : RouteTold t s l p) where
  -- an answer that changes nothing
  pub vain-told : RouteTold t (commit s n.0 nothing) l p
  vain-told = gentle-told t s (commit s n.0 nothing) l p
      (commit-gentle s n l nothing (nothing-gentle (s.nodes n.0) l)) r

  pub on_alarm-told : (f : Fibre) → RouteTold t (commit s n.0 (on_alarm (local_node t n) (s.nodes n.0) f)) l p
  on_alarm-told f =
      if_cases (λ a. RouteTold t (commit s n.0 a) l p)
      (enters (local_node t n) f (own_link (local_node t n) f.link) && not (has_fibre (s.nodes n.0).down f)) _ _
      (λ e. alarm-told t s n o f fibre_down_code true refl ((s.nodes n.0).down ++ f ∷ [])
      (λ g. has-more (s.nodes n.0).down g f ∙ or_cond (has_fibre (s.nodes n.0).down g) (same_fibre g f)) rise l q p
      pl r)
      (λ e. vain-told)

  pub on_clear-told : (f : Fibre) → RouteTold t (commit s n.0 (on_clear (local_node t n) (s.nodes n.0) f)) l p
  on_clear-told f =
      if_cases (λ a. RouteTold t (commit s n.0 a) l p)
      (enters (local_node t n) f (own_link (local_node t n) f.link) && has_fibre (s.nodes n.0).down f) _ _
      (λ e. alarm-told t s n o f fibre_up_code false refl (without_fibre f (s.nodes n.0).down)
      (λ g. has-less (s.nodes n.0).down g f ∙ not_cond (has_fibre (s.nodes n.0).down g) (same_fibre g f)) rise l q p
      pl r)
      (λ e. vain-told)

-- A call is released at its ingress.
use Rattle.std.proofs.Common.{◌≡◌, ◌<◌, ℕ, Bool, true, false, nat_eq, List, [], ◌∷◌, refl, sym, ◌∙◌, arith}
use Rattle.std.specs.Prelude.{Option, Some, None}
use Rattle.ason_base.specs.{Network.Network, Lsps.same_lsp, declared.ids.Lsp.Lsp, declared.ids.NodeId.NodeId, declared.steps.Step.Step, declared.messages.Msg.Msg, declared.messages.Msg.TheVariants.PathTear, declared.tables.CallRec.CallRec, declared.tables.Leg.Leg}
use Rattle.ason_base.proofs.JoinedEnds.{same-node}
use Rattle.mesh_rules.specs.{declared.neighbours.Neighbour.Neighbour, State.NodeState, Changes.{Answer, nothing, changes_calls, followed_by}, LocalNodes.local_node, Legs.{find_leg, closed, following, is_closing, leg_of}, Releases.{tear_to, tears, releases, release_with}, Machine.{Mesh, commit}, Events.first_route}
use Rattle.mesh_rules.specs.declared.changes.CallChange.TheVariants as call
use Rattle.lsp_laws.specs.HopLaw.{leg_at, mail_between, notices_between}
use Rattle.lsp_laws.proofs.{hops.Plans.{Plan, hops, plan, node_at, link_at, distinct}, hops.Views.{SendsNoNotice, mail-else, notices-plain}, hops.Purposes.Purpose, hops.Chain.{LegFitsPlan, Chain}, hops.Changed.place_changed, hops.Sending.{sent_of_lsp, sends_on, changed-here}, hops.LegKinds.{same_of, phase_stands}, hops.LegChanges.{closed_kind, closed_fits, following_is}, hops.Upstream.leg_closes, hops.Taken.path_before, hops.OtherLsps.{leg-other, mail-other, sent-plain}, hops.Own.{AllSent, IsOf, found-is}, hops.Notices.notices_same, hops.Planned.{Planned, Routes, Follows, EachFollows, SameOf, follows_same, next_same}, hops.Quiet.same_quiet, hops.Stepped.{EachStepped, begins-none, stepped_quiet, stepped_then}}
use Rattle.mesh_nodes.proofs.{LegList.same_lsp-eq, Cases.if_cases}

-- the leg of an LSP that a call names begins here and isn't torn
abbrev pub NamedStands : ℕ → NodeState → Option Lsp → Type 0
NamedStands n s named =
    (l : Lsp) (g : Leg) → named ≡ Some l → find_leg l s.legs ≡ Some g →
    (l.ingress.0 ≡ n) × (is_closing g.phase ≡ false)

-- What a release needs to know of a call: so it is with both of its LSPs, which are two.
pub record CallStands (n : ℕ) (s : NodeState) (c : CallRec) : Type 0 where
  pub work : NamedStands n s c.work
  pub back : NamedStands n s c.back
  pub apart : (k l : Lsp) (g : Leg) → c.work ≡ Some k → c.back ≡ Some l → find_leg k s.legs ≡ Some g →
      same_lsp k l ≡ false

module _ (t : Network) (s : Mesh) (o : Routes) where
  -- the leg at the ingress closes
  tears_chain : (l : Lsp) (q : Purpose) (p : Plan) (g : Leg) → Planned t s o l q p → leg_at s l (node_at p 0) ≡ Some g →
      is_closing g.phase ≡ false →
      Chain t q l p (leg_at (commit s (node_at p 0).0 (tears (Some g))) l)
      (mail_between (commit s (node_at p 0).0 (tears (Some g))) l)
  tears_chain l q p g pl here stands =
      let small : 0 < hops p = pl.route.long in
      let fits : LegFitsPlan t q l p 0 g = rw here at (pl.chain.fits 0 (omega arith)) in
      let mine : same_lsp g.lsp l ≡ true = same_of g.lsp l fits.own in
      let tear : Msg = PathTear g.lsp g.egress (link_at p 0) in
      let a : Answer = tears (Some g) in
      place_changed t q l l.ingress p (leg_at s l) _ (mail_between s l) _ 0 (Some (closed g)) (sent_of_lsp l a.sent)
      [] (tear ∷ [])
      pl.route pl.chain (omega arith)
      (changed-here s (node_at p 0) l a (Some (closed g)) (rw mine refl))
      (rw (following_is t q l p 0 g fits small) (sends_on t l l.ingress p pl.route 0 tear small mine))
      (closed_fits t q l p 0 g fits small)
      (λ x ne. rw (mail-else s (node_at p 0) x (node_at p 0) l a ne) (pl.chain.ways x (node_at p 0)))
      (λ k e. absurd (omega arith))
      (λ _. rw (mail-else s (node_at p 0) (node_at p 1) (node_at p 0) l a
      (distinct t l.ingress p pl.route 1 0 (omega arith) (omega arith) (omega arith)))
      (leg_closes q p 0 _ _ _ g (closed g) g.lsp g.egress (link_at p 0) (phase_stands g.phase stands)
      (closed_kind t q l p 0 g fits) refl refl refl refl (rw here at (pl.chain.each 0 small))))
      (λ k less. absurd (omega arith))
      (λ _ gone path. pl.chain.fresh 0 small (record {
        gone = gone;
        path = path_before (mail_between s l (node_at p 0) (node_at p 1)) (tear ∷ []) refl path;
      }))

  pub own_tears : (l : Lsp) (g : Leg) → g.lsp ≡ l → IsOf l (tears (Some g))
  own_tears l g is = record { legs = (is, tt); sent = to_next (following g) }
    where
      to_next : (o : Option Neighbour) → AllSent l (tear_to g o)
      to_next None = tt
      to_next (Some h) = (is, refl, tt)

  tears_plain : (g : Leg) → SendsNoNotice (tears (Some g)).sent
  tears_plain g = sent-plain g.lsp (tears (Some g)).sent (own_tears g.lsp g refl).sent

  tears_planned : (n : NodeId) (l : Lsp) (q : Purpose) (p : Plan) (g : Leg) → Planned t s o l q p →
      l.ingress.0 ≡ n.0 → leg_at s l n ≡ Some g → is_closing g.phase ≡ false →
      Planned t (commit s n.0 (tears (Some g))) o l q p
  tears_planned n l q p g pl at_n here stands =
      let is : n ≡ node_at p 0 = sym (pl.route.first ∙ same-node l.ingress n at_n) in
      let here' : leg_at s l (node_at p 0) ≡ Some g = rw (← is) here in
      record {
        route = pl.route;
        made = pl.made;
        chain = rw is (tears_chain l q p g pl here' stands);
        notices = notices_same p (notices_between s l) (notices_between (commit s n.0 (tears (Some g))) l)
            (λ a b. notices-plain s n a b l (tears (Some g)) (tears_plain g)) pl.notices;
        number = rw (next_same s n.0 l.ingress.0 (tears (Some g)) refl) pl.number;
        guards = pl.guards;
        beside = pl.beside;
      }

  tears_other : (n : NodeId) (w l : Lsp) (g : Leg) → g.lsp ≡ w → same_lsp w l ≡ false →
      SameOf s (commit s n.0 (tears (Some g))) l
  tears_other n w l g is apart = record {
    still = record {
      legs = λ m. leg-other s n m w l (tears (Some g)) (own_tears w g is) apart;
      mail = λ x y. mail-other s n x y w l (tears (Some g)) (own_tears w g is) apart;
      next = (let e = next_same s n.0 l.ingress.0 (tears (Some g)) refl in omega arith);
    };
    notices = λ x y. notices-plain s n x y l (tears (Some g)) (tears_plain g);
  }

  module _ (n : NodeId) (f : EachFollows t s o) where
    tears_lsp : (w : Lsp) (g : Leg) → find_leg w (s.nodes n.0).legs ≡ Some g →
        (w.ingress.0 ≡ n.0) × (is_closing g.phase ≡ false) → (l : Lsp) (own : Bool) → same_lsp w l ≡ own →
        (c : Option (List Step)) → Follows t s o l c → Follows t (commit s n.0 (tears (Some g))) o l c
    tears_lsp w g here facts l false e c f =
        follows_same t s (commit s n.0 (tears (Some g))) o l c
        (tears_other n w l g (found-is w (s.nodes n.0).legs (Some g) here) e) f
    tears_lsp w g here facts l true e None f =
        let is = same_lsp-eq w l e in
        let none : find_leg w (s.nodes n.0).legs ≡ None = rw is (f.legs n) in
        absurd (cc (here, none))
    tears_lsp w g here facts l true same (Some route) (e, q, pl) =
        let is = same_lsp-eq w l same in
        (e, q, tears_planned n l q (plan route e) g pl (rw (← is) facts.0) (rw (← is) here) facts.1)

    pub tears_leg : (w : Lsp) (h : Option Leg) → leg_at s w n ≡ h →
        ((g : Leg) → h ≡ Some g → (w.ingress.0 ≡ n.0) × (is_closing g.phase ≡ false)) →
        EachFollows t (commit s n.0 (tears h)) o
    tears_leg w None here stands l =
        follows_same t s (commit s n.0 nothing) o l (o l)
        (same_quiet s n nothing l (record { legs = refl; sent = refl; numbers = refl })) (f l)
    tears_leg w (Some g) here stands l = tears_lsp w g here (stands g refl) l (same_lsp w l) refl (o l) (f l)

    tears_none : EachFollows t (commit s n.0 (tears None)) o
    tears_none l =
        follows_same t s (commit s n.0 nothing) o l (o l)
        (same_quiet s n nothing l (record { legs = refl; sent = refl; numbers = refl })) (f l)

  -- the leg of another LSP stays
  leg_beside : (n : NodeId) (w l : Lsp) (h : Option Leg) → leg_at s w n ≡ h →
      ((g : Leg) → h ≡ Some g → same_lsp w l ≡ false) → leg_at (commit s n.0 (tears h)) l n ≡ leg_at s l n
  leg_beside n w l None here apart =
      (same_quiet s n nothing l (record { legs = refl; sent = refl; numbers = refl })).still.legs n
  leg_beside n w l (Some g) here apart =
      (tears_other n w l g (found-is w (s.nodes n.0).legs (Some g) here) (apart g refl)).still.legs n

no_route_sent : (l : Lsp) (h : Option Leg) → first_route l (tears h).sent ≡ None
no_route_sent l None = refl
no_route_sent l (Some g) = go (following g)
  where
    go : (o : Option Neighbour) → first_route l (tear_to g o) ≡ None
    go None = refl
    go (Some h) = refl

-- the working LSP is torn, then the backup, and the call goes
module _ (t : Network) (s : Mesh) (o : Routes) (n : NodeId) (f : EachFollows t s o) where
  abbrev legs : List Leg
  legs = (s.nodes n.0).legs

  after_work : (work : Option Lsp) → NamedStands n.0 (s.nodes n.0) work →
      EachFollows t (commit s n.0 (tears (leg_of work legs))) o
  after_work None stands = tears_none t s o n f
  after_work (Some k) stands = tears_leg t s o n f k (find_leg k legs) refl (λ g e. stands k g refl e)

  beside : (work : Option Lsp) (l : Lsp) →
      ((k : Lsp) (g : Leg) → work ≡ Some k → find_leg k legs ≡ Some g → same_lsp k l ≡ false) →
      leg_at (commit s n.0 (tears (leg_of work legs))) l n ≡ find_leg l legs
  beside None l apart = (same_quiet s n nothing l (record { legs = refl; sent = refl; numbers = refl })).still.legs n
  beside (Some k) l apart = leg_beside t s o n k l (find_leg k legs) refl (λ g e. apart k g refl e)

  after_back : (work back : Option Lsp) → NamedStands n.0 (s.nodes n.0) work → NamedStands n.0 (s.nodes n.0) back →
      ((k l : Lsp) (g : Leg) → work ≡ Some k → back ≡ Some l → find_leg k legs ≡ Some g → same_lsp k l ≡ false) →
      EachFollows t (commit (commit s n.0 (tears (leg_of work legs))) n.0 (tears (leg_of back legs))) o
  after_back work None stands stands' apart =
      tears_none t (commit s n.0 (tears (leg_of work legs))) o n (after_work work stands)
  after_back work (Some l) stands stands' apart =
      tears_leg t (commit s n.0 (tears (leg_of work legs))) o n (after_work work stands) l (find_leg l legs)
      (beside work l (λ k g e found. apart k l g e refl found)) (λ g e. stands' l g refl e)

  releases_stepped : (c : CallRec) → CallStands n.0 (s.nodes n.0) c → EachStepped t s n o (releases (s.nodes n.0) c)
  releases_stepped c facts =
      let work : Answer = tears (leg_of c.work legs) in
      let back : Answer = tears (leg_of c.back legs) in
      let calls : Answer = changes_calls (call.Goes c.call ∷ []) in
      stepped_then t s n o work (followed_by back calls)
      (begins-none n o work (λ l. no_route_sent l (leg_of c.work legs)))
      (stepped_then t (commit s n.0 work) n o back calls
      (begins-none n o back (λ l. no_route_sent l (leg_of c.back legs)))
      (stepped_quiet t (commit (commit s n.0 work) n.0 back) n o calls
      (after_back c.work c.back facts.work facts.back facts.apart)
      (record { legs = refl; sent = refl; numbers = refl })))

  pub release_stepped : (from : NodeId) (c : Option CallRec) →
      ((d : CallRec) → c ≡ Some d → CallStands n.0 (s.nodes n.0) d) →
      EachStepped t s n o (release_with (local_node t n) (s.nodes n.0) from c)
  release_stepped from None stands =
      stepped_quiet t s n o nothing f (record { legs = refl; sent = refl; numbers = refl })
  release_stepped from (Some c) stands =
      if_cases (EachStepped t s n o) (nat_eq from.0 n.0) (releases (s.nodes n.0) c) nothing
      (λ h. releases_stepped c (stands c refl))
      (λ h. stepped_quiet t s n o nothing f (record { legs = refl; sent = refl; numbers = refl }))

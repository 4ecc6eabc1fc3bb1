-- What a Notify tells a call concerns one of the groups, where it is told of a link of one.
use Rattle.std.proofs.{Common.{◌≡◌, Bool, true, false, cond, nat_eq, nat_lt, List, [], ◌∷◌, refl, sym, subst, arith}, lemmas.Bool.or_right}
use Rattle.std.specs.Prelude.{◌&&◌, Option, Some, None}
use Rattle.ason_base.specs.{Lsps.is_lsp, Network.Network, declared.ids.Fibre.Fibre, declared.ids.LinkId.LinkId, declared.ids.Lsp.Lsp, declared.ids.NodeId.NodeId, declared.commands.Group.Group, declared.steps.Step.Step, declared.tables.CallRec.CallRec, declared.tables.Leg.Leg}
use Rattle.mesh_rules.specs.{declared.neighbours.Neighbour.Neighbour, Calls.call_with, Legs.{find_leg, leg_of, previous}, LocalNodes.LocalNode, Notifies.{Notice, notice_passed, notice_told}, Pairs.route_from, Reports.{call_reported, fibre_into, first_node, report_here, reported_on, with_report}, State.NodeState}
use Rattle.mesh_nodes.proofs.{CallList.called-names, Cases.if_cases, Reports.with_report-back}
use Rattle.lsp_laws.proofs.{nodes.CallMoves.all-fibres, nodes.CallParts.lsp-is}
use Rattle.mesh_laws.proofs.{alone.Calls.{called-holds, called-knows, decide-fine, leg-may_turn}, alone.Facts.{NodeKnows, LspRoutes}, alone.Fine.{CallHolds, Fine, IsExposed, NodeHolds, fine-nothing, fine-sends}, alone.Groups.{FibreConcernsGroups, MsgConcernsGroups, any_on_link, any_on_route}, alone.Legs.BackupsApart}

-- a fibre that is read off a route is one of the link that was told, which is on the route
fibre-on_route : (t : Network) (gs : List Group) (route : List Step) (e n : NodeId) (k : LinkId) (f : Fibre) →
    fibre_into route e n k ≡ Some f → any_on_link t gs k ≡ true → (any_on_link t gs f.link ≡ true) ×
    (any_on_route t gs route ≡ true)
fibre-on_route t gs [] e n k f is on = absurd (cc is)
fibre-on_route t gs (hop ∷ route) e n k f is on =
    go (nat_eq hop.link.0 k.0) (nat_eq (first_node route e).0 n.0) refl is
    (λ later. fibre-on_route t gs route e n k f later on)
  where
    later-on : (any_on_link t gs f.link ≡ true) × (any_on_route t gs route ≡ true) →
        (any_on_link t gs f.link ≡ true) × (any_on_route t gs (hop ∷ route) ≡ true)
    later-on both = (both.0, or_right (any_on_link t gs hop.link) _ both.1)

    go : (a b : Bool) → nat_eq hop.link.0 k.0 ≡ a →
        cond (a && b) (Some (record { link = hop.link; forward = nat_lt hop.node.0 n.0 }))
        (fibre_into route e n k) ≡ Some f →
        (fibre_into route e n k ≡ Some f → (any_on_link t gs f.link ≡ true) × (any_on_route t gs route ≡ true)) →
        (any_on_link t gs f.link ≡ true) × (any_on_route t gs (hop ∷ route) ≡ true)
    go true true test is later =
        let fibre : record { link = hop.link; forward = nat_lt hop.node.0 n.0 } ≡ f = cc is in
        let number : hop.link.0 ≡ k.0 = grind arith in
        let same : hop.link ≡ k = λ i. record { 0 = number i } in
        let here : any_on_link t gs hop.link ≡ true = subst (λ m. any_on_link t gs m ≡ true) (sym same) on in (
          subst (λ (m : Fibre). any_on_link t gs m.link ≡ true) fibre here,
          rw here refl,
        )
    go true false test is later = later-on (later is)
    go false b test is later = later-on (later is)

module _ (t : Network) (gs : List Group) (o : LspRoutes) where
  report-holds : (c : CallRec) (l : Lsp) (down : Bool) (f : Fibre) → (is_lsp c.work l ≡ false → c.back ≡ Some l) →
      IsExposed t gs o (Some l) → FibreConcernsGroups t gs f → CallHolds t gs o c →
      CallHolds t gs o (with_report c l down f)
  report-holds c l down f else_back exposed of holds =
      if_cases (CallHolds t gs o) (is_lsp c.work l) _ _
      (λ e. record {
        concerns = record {
          work_reports = all-fibres (FibreConcernsGroups t gs) down f c.work_reports of holds.concerns.work_reports;
          back_reports = holds.concerns.back_reports;
          free = holds.concerns.free;
          admitted = holds.concerns.admitted;
        };
        work = λ some. subst (IsExposed t gs o) (sym (lsp-is c.work l e)) exposed;
        back = holds.back;
      })
      (λ e. record {
        concerns = record {
          work_reports = holds.concerns.work_reports;
          back_reports = all-fibres (FibreConcernsGroups t gs) down f c.back_reports of holds.concerns.back_reports;
          free = holds.concerns.free;
          admitted = holds.concerns.admitted;
        };
        work = holds.work;
        back = λ some. subst (IsExposed t gs o) (sym (else_back e)) exposed;
      })

  report-work : (c : CallRec) (l : Lsp) (down : Bool) (f : Fibre) → (with_report c l down f).work ≡ c.work
  report-work c l down f = if_cases (λ (d : CallRec). d.work ≡ c.work) (is_lsp c.work l) _ _ (λ e. refl) (λ e. refl)

  -- A Notify of the LSP of this leg
  module _ (p : LocalNode) (s : NodeState) (knows : NodeKnows t o p s) (holds : NodeHolds t gs o s)
      (apart : BackupsApart gs s.legs) (b : Leg) (here : find_leg b.lsp s.legs ≡ Some b) where
    call_reported-fine : (down : Bool) (f : Fibre) (c : Option CallRec) → call_with b.lsp s.calls ≡ c →
        IsExposed t gs o (Some b.lsp) → FibreConcernsGroups t gs f → Fine t gs o (call_reported s b.lsp down f c)
    call_reported-fine down f None called exposed of = fine-nothing t gs o
    call_reported-fine down f (Some c) called exposed of =
        let call = called-knows t gs o p s knows holds b.lsp c called in
        let named = called-names b.lsp s.calls c called in
        decide-fine t gs o p s knows holds (with_report c b.lsp down f) c (leg_of c.back s.legs) call
        (report-work c b.lsp down f) (with_report-back c b.lsp down f)
        (report-holds c b.lsp down f (λ e. lsp-is c.back b.lsp (rw e at named)) exposed of
        (called-holds t gs o p s knows holds b.lsp c called))
        (λ hit. leg-may_turn t gs o p s knows holds apart c call hit c.back refl)

    report_here-fine : (n : NodeId) (k : LinkId) (down : Bool) → previous b ≡ None → any_on_link t gs k ≡ true →
        Fine t gs o (report_here p s b n k down)
    report_here-fine n k down first on = go (fibre_into (route_from p b) b.egress n k) refl
      where
        go : (f : Option Fibre) → fibre_into (route_from p b) b.egress n k ≡ f → Fine t gs o (reported_on s b down f)
        go None is = fine-nothing t gs o
        go (Some f) is =
            let both = fibre-on_route t gs (route_from p b) b.egress n k f is on in
            call_reported-fine down f (call_with b.lsp s.calls) refl
            (route_from p b, knows.begins b.lsp b here first, both.1) both.0

    notice_passed-fine : (m : Notice) (down : Bool) (h : Option Neighbour) → previous b ≡ h →
        MsgConcernsGroups t gs m.msg → any_on_link t gs m.link ≡ true → Fine t gs o (notice_passed p s m b down h)
    notice_passed-fine m down None first concerns on = report_here-fine m.at m.link down first on
    notice_passed-fine m down (Some h) first concerns on = fine-sends t gs o _ (concerns, tt)

    -- the answer to a Notify, at its ingress or before it
    pub notice_told-fine : (m : Notice) (down : Option Bool) → MsgConcernsGroups t gs m.msg →
        any_on_link t gs m.link ≡ true →
        Fine t gs o (notice_told p s m b down)
    notice_told-fine m None concerns on = fine-nothing t gs o
    notice_told-fine m (Some down) concerns on = notice_passed-fine m down (previous b) refl concerns on

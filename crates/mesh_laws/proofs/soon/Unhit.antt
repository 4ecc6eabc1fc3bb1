-- While one group alone has failed, no fibre of the backup of a call that it hits is reported.
use Rattle.std.proofs.{Common.{◌≡◌, Bool, true, false, cond, nat_eq, nat_lt, List, [], ◌∷◌, refl, sym, ◌∙◌, subst}, lemmas.Bool.or_right}
use Rattle.std.specs.{Prelude.{◌&&◌, Option, Some}, List.AllByRecursion}
use Rattle.ason_base.specs.{Network.Network, Routes.routes_share_risk, declared.commands.Group.Group, declared.ids.Fibre.Fibre, declared.ids.LinkId.LinkId, declared.ids.Lsp.Lsp, declared.ids.NodeId.NodeId, declared.steps.Step.Step, declared.tables.CallRec.CallRec}
use Rattle.mesh_rules.specs.Reports.{fibre_into, first_node}
use Rattle.lsp_laws.specs.ReportLaw.{AreOf, IsOfRoute, ReportsAreOf}
use Rattle.mesh_laws.specs.AloneLaw.{CallConcerns, FibreConcerns, is_on_link, is_on_route}
use Rattle.mesh_laws.proofs.alone.Risks.{not_beside}

-- a fibre of a route, of a link of the group
into-on : (t : Network) (g : Group) (route : List Step) (e n : NodeId) (k : LinkId) (f : Fibre) →
    fibre_into route e n k ≡ Some f → is_on_link t g f.link ≡ true → is_on_route t g route ≡ true
into-on t g [] e n k f is on = absurd (cc is)
into-on t g (hop ∷ route) e n k f is on =
    go (nat_eq hop.link.0 k.0 && nat_eq (first_node route e).0 n.0) is
    (λ later. into-on t g route e n k f later on)
  where
    go : (b : Bool) →
        cond b (Some (record { link = hop.link; forward = nat_lt hop.node.0 n.0 })) (fibre_into route e n k) ≡ Some f →
        (fibre_into route e n k ≡ Some f → is_on_route t g route ≡ true) → is_on_route t g (hop ∷ route) ≡ true
    go true is later =
        let one : record { link = hop.link; forward = nat_lt hop.node.0 n.0 } ≡ f = cc is in
        let here : is_on_link t g hop.link ≡ true =
        subst (λ (x : Fibre). is_on_link t g x.link ≡ true) (sym one) on in
        rw here refl
    go false is later = or_right (is_on_link t g hop.link) (is_on_route t g route) (later is)

module _ (t : Network) (g : Group) (o : Lsp → Option (List Step)) (b : Lsp) (work back : List Step)
    (sent : o b ≡ Some back) (apart : routes_share_risk t work back ≡ false) (hit : is_on_route t g work ≡ true) where
  none-of : (fibres : List Fibre) → AllByRecursion (IsOfRoute t o b) fibres →
      AllByRecursion (FibreConcerns t g) fibres → fibres ≡ []
  none-of [] of concern = refl
  none-of (f ∷ fibres) of concern =
      let its = of.0 in
      let same : its.route ≡ back = (let x = its.sent in let some : Some its.route ≡ Some back = sym x ∙ sent in cc some)
      in
      let on : is_on_route t g its.route ≡ true =
      into-on t g its.route its.to its.at its.link f its.into concern.0 in
      absurd (not_beside t g work back apart hit (subst (λ r. is_on_route t g r ≡ true) same on))

  -- The call's backup has no report.
  pub unhit : (c : CallRec) → c.back ≡ Some b → ReportsAreOf (IsOfRoute t o) c → CallConcerns t g c →
      c.back_reports ≡ []
  unhit c is_back of concern =
      none-of c.back_reports (subst (λ l. AreOf (IsOfRoute t o) l c.back_reports) is_back of.back) concern.back_reports

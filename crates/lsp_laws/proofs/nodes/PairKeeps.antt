-- Asking for a backup beside a call's working LSP keeps the facts of a node.
use Rattle.std.proofs.{Common.{◌≡◌, ◌+◌, true, false, nat_lt, List, drop, refl, sym, ap, subst, ◌∙◌, arith, inl, inr}, Math.Bool.and-true}
use Rattle.std.specs.Prelude.{◌⊎◌, Option, Some, None, is_some}
use Rattle.ason_base.specs.{Lsps.same_lsp, Risks.unknown_link, declared.calls.CallState.TheVariants.Bare, declared.calls.Cause.Cause, Codes.label_code, declared.calls.Cause.TheVariants.{Code, Full, NoBackup, Spent}, declared.calls.Phase.TheVariants.Live, declared.calls.Role.TheVariants.{Work, Back}, declared.ids.CallNo.CallNo, declared.ids.Lsp.Lsp, declared.network.LinkSpec.LinkSpec, declared.steps.Step.Step, declared.tables.CallRec.CallRec, declared.tables.Leg.Leg}
use Rattle.mesh_rules.specs.{declared.limits.TheConstants.LAST_NUMBER, Calls.{find_call, names, pairing, unbacked, with_call}, Changes.{Answer, changed}, FirstLegs.{first_leg, first_link, is_full, lacks_first_back}, KnownRows.known_rows, Legs.{find_leg, leg_of, with_leg}, LocalNodes.LocalNode, Pairs.{admitted_backup, backup_lsp, backup_route, begins_backup, beside_lsp, guarding, is_two_way, leaves_bare, over_backup, pair, pair_over, route_from}, State.NodeState}
use Rattle.mesh_nodes.specs.Order.{CallsRise}
use Rattle.mesh_nodes.proofs.{Cases.if_cases, CallList.rise-with_call, LegList.{find-with_leg, same_lsp-eq, same_lsp-refl}, ChosenLabels.first-has}
use Rattle.lsp_laws.specs.CallLaw.{FitsLegs, GuardsWork, IsNamed, phase_of}
use Rattle.lsp_laws.proofs.{nodes.Facts.NodeFacts, nodes.CallKeeps.{named-leg, no_leg}, nodes.CallParts.{LegBecomes, CallPart, Replaced, leg_of-stays, named-by, named-stays, names-back, names-work, new-unnamed, other-stays, together-part}, nodes.LegParts.{LegPart, part-with_leg}, nodes.NewLegs.{first-stands, ingress-leaves}, nodes.Parts.{node_facts, work-row}, nodes.Sharing.TakeOnlyRead, nodes.States.{Row, bare-legs}, hops.NamedPhases.named_is}

-- the call stands, with this working leg and without a backup
pub record IsBareCall (legs : List Leg) (calls : List CallRec) (c : CallRec) (w : Leg) : Type 0 where
  pub found : find_call c.call calls ≡ Some c
  pub state : c.state ≡ Bare
  pub work : c.work ≡ Some w.lsp
  pub leg : find_leg w.lsp legs ≡ Some w

-- These legs and calls stand when the rule is carried out. s is what it reads: what these legs take was taken there,
-- and a call that it puts in its place there is in the same place among these calls.
module _ (p : LocalNode) (s : NodeState) (legs : List Leg) (calls : List CallRec) (c : CallRec) (w : Leg)
    (leg_part : LegPart p.id.0 s.lsp legs) (call_part : CallPart p.id.0 s.lsp legs calls)
    (less : TakeOnlyRead s.legs legs) (bare : IsBareCall legs calls c w) (rise : CallsRise s.calls)
    (put : (d : CallRec) → d.call ≡ c.call → Replaced c.call (Some d) calls (with_call d s.calls)) where
  abbrev pub After : Answer → Type 0
  After a = NodeFacts p.id.0 (changed (record s { legs = legs }) a)

  fit : FitsLegs p.id.0 s.lsp legs c
  fit = call_part.call c.call c bare.found

  standing : (phase_of (leg_of c.work legs) ≡ Some Live) × (phase_of (leg_of c.back legs) ≡ None)
  standing =
      let by_work = work-row p.id.0 s.lsp legs c w.lsp w fit bare.work bare.leg in
      let there : phase_of (leg_of c.work legs) ≡ Some w.phase =
      ap (λ o. phase_of (leg_of o legs)) bare.work ∙ ap phase_of bare.leg in
      let by_state : Row Bare (Some w.phase) (phase_of (leg_of c.back legs)) =
      subst (λ state. Row state (Some w.phase) (phase_of (leg_of c.back legs))) bare.state by_work in
      let both = bare-legs (Some w.phase) (phase_of (leg_of c.back legs)) by_state in
      (there ∙ both.0, both.1)

  alone : c.back ≡ None
  alone = no_leg p.id.0 s.lsp legs Back c.egress c.back fit.back standing.1

  working : IsNamed p.id.0 s.lsp legs Work c.egress w.lsp
  working = named_is p.id.0 s.lsp legs Work c.egress c.work w.lsp fit.work bare.work

  -- Without a backup

  -- a call of the same working LSP names what this one names, which has no backup
  still-names : (d : CallRec) → d.work ≡ c.work → (l : Lsp) (e : CallRec) → find_call c.call calls ≡ Some e →
      names l e ≡ true → names l d ≡ true
  still-names d same l e there named =
      let mine = bare.found in let one : e ≡ c = cc (mine, there) in
      elim (named-by c l (subst (λ y. names l y ≡ true) one named)) [
        | inl work ↦ names-work d l (same ∙ work)
        | inr back ↦ (let none = alone in absurd (cc (none, back)))
      ]

  pub keeps-leaves_bare : (cause : Cause) → After (leaves_bare c cause)
  keeps-leaves_bare cause =
      let d = unbacked c cause in
      let live = standing.0 in
      node_facts p.id.0 (changed (record s { legs = legs }) (leaves_bare c cause)) leg_part
      (together-part p.id.0 s.lsp s.lsp (λ l. false) c.call (Some d) legs legs calls (with_call d s.calls)
      (omega arith)
      (rise-with_call d s.calls rise) (put d refl)
      (record {
        stay = λ m never. refl;
        apart = λ m e l other there named. refl;
        only = λ e l is named. inr
            (let one : d ≡ e = cc is in (
              c,
              bare.found,
              (elim (named-by d l (subst (λ y. names l y ≡ true) (sym one) named)) [
                | inl work ↦ names-work c l work
                | inr back ↦ absurd (cc back)
              ]),
            ));
        kept = λ e l there named never. (d, refl, still-names d refl l e there named);
        facts = λ e is. (let one : d ≡ e = cc is in subst (FitsLegs p.id.0 s.lsp legs) one (record {
          state = rw live refl;
          work = fit.work;
          back = tt;
          guards = λ x b h is_work is_back there. absurd (cc is_back);
          ways = λ x b k h is_work is_back at_x at_b. absurd (cc is_back);
          reports = refl;
        }));
        number = λ e is. (let one : d ≡ e = cc is in ap (λ y. y.call) (sym one));
        wanted = λ l h t found here stands. absurd (cc t);
      }) call_part)

  -- With one

  module _ (out : LinkSpec) (route : List Step)
      (has : lacks_first_back p s (is_two_way w) (guarding p w) out ≡ false) where
    abbrev l : Lsp
    l = beside_lsp w.lsp s.lsp

    abbrev g : Leg
    g = first_leg p (known_rows p s) (backup_lsp p s w out route)

    abbrev d : CallRec
    d = pairing c (beside_lsp w.lsp s.lsp)

    abbrev legs' : List Leg
    legs' = with_leg (first_leg p (known_rows p s) (backup_lsp p s w out route)) legs

    becomes : LegBecomes l (Some g) legs legs'
    becomes = find-with_leg g legs

    found : find_leg l legs' ≡ Some g
    found = rw (becomes l, same_lsp-refl l) refl

    unnamed : (m : CallNo) (e : CallRec) (x : Lsp) → find_call m calls ≡ Some e → names x e ≡ true →
        same_lsp l x ≡ false
    unnamed = new-unnamed p.id.0 s.lsp legs calls l refl call_part

    work-stays : (m : Lsp) → c.work ≡ Some m → find_leg m legs' ≡ find_leg m legs
    work-stays m work =
        other-stays l m (Some g) legs legs' becomes (unnamed c.call c m bare.found (names-work c m work))

    egress : w.egress ≡ c.egress
    egress = (named-leg p.id.0 s.lsp legs Work c.egress w.lsp w working bare.leg).1

    back-as_work : is_two_way g ≡ is_two_way w
    back-as_work = first-has p s (is_two_way w) (guarding p w) out has ∙ and-true (is_two_way w)

    paired : FitsLegs p.id.0 (s.lsp + 1) legs' d
    paired =
        let first = leg_of-stays c.work legs legs' work-stays in
        let live = standing.0 in
        let there = found in
        record {
          state = rw (first, live, there) refl;
          work = named-stays p.id.0 s.lsp (s.lsp + 1) Work c.egress c.work legs legs' (omega arith) work-stays
              fit.work;
          back = record {
            ingress = working.ingress;
            number = omega arith;
            leg = (g, found, refl, egress);
          };
          guards = λ x b h is_work is_back there'.
              (let first_work : w.lsp ≡ x = (let at_work = bare.work in cc (at_work, is_work)) in
              let own : l ≡ b = cc is_back in
              let there'' : find_leg l legs' ≡ Some h = subst (λ k. find_leg k legs' ≡ Some h) (sym own) there' in
              let one : g ≡ h = cc (found, there'') in
              subst (λ (k : Leg). GuardsWork x b k.path_role) one (subst (λ k. GuardsWork x k g.path_role) own
              (subst (λ k. GuardsWork k l g.path_role) first_work refl)));
          ways = λ x b k h is_work is_back at_x at_b.
              (let first_work : w.lsp ≡ x = (let at_work = bare.work in cc (at_work, is_work)) in
              let at_w : find_leg w.lsp legs' ≡ Some k = subst (λ m. find_leg m legs' ≡ Some k) (sym first_work) at_x in
              let itself : w ≡ k = (let stays = work-stays w.lsp bare.work ∙ bare.leg in cc (stays, at_w)) in
              let own : l ≡ b = cc is_back in
              let at_l : find_leg l legs' ≡ Some h = subst (λ m. find_leg m legs' ≡ Some h) (sym own) at_b in
              let one : g ≡ h = cc (found, at_l) in
              subst (λ m. is_two_way h ≡ is_two_way m) itself
              (subst (λ m. is_two_way m ≡ is_two_way w) one back-as_work));
          reports = refl;
        }

    pub keeps-begins_backup : After (begins_backup p s c w out route)
    keeps-begins_backup =
        node_facts p.id.0 (changed (record s { legs = legs }) (begins_backup p s c w out route))
        (part-with_leg p.id.0 s.lsp (s.lsp + 1) g legs (omega arith) leg_part
        (first-stands p s (backup_lsp p s w out route) (is_two_way w) (s.lsp + 1) legs refl has working.ingress
        (ingress-leaves p.id.0 s.lsp w (leg_part.leg w.lsp w bare.leg) working.ingress) (omega arith)
        leg_part.labels less))
        (together-part p.id.0 s.lsp (s.lsp + 1) (same_lsp l) c.call (Some d) legs legs' calls (with_call d s.calls)
        (omega arith) (rise-with_call d s.calls rise) (put d refl)
        (record {
          stay = λ m other. other-stays l m (Some g) legs legs' becomes other;
          apart = λ m e x other there named. unnamed m e x there named;
          only = λ e x is named. (let one : d ≡ e = cc is in only x (subst (λ y. names x y ≡ true) (sym one) named));
          kept = λ e x there named never. (d, refl, still-names d refl x e there named);
          facts = λ e is. (let one : d ≡ e = cc is in subst (FitsLegs p.id.0 (s.lsp + 1) legs') one paired);
          number = λ e is. (let one : d ≡ e = cc is in ap (λ y. y.call) (sym one));
          wanted = λ x h same there here stands. (d, refl, names-back d x (ap Some (same_lsp-eq l x same)));
        }) call_part)
      where
        only : (x : Lsp) → names x d ≡ true →
            (same_lsp l x ≡ true) ⊎ ((e : CallRec) × (find_call c.call calls ≡ Some e) × (names x e ≡ true))
        only x named = elim (named-by d x named) [
          | inl work ↦ inr (c, bare.found, names-work c x work)
          | inr back ↦ inl (let one : l ≡ x = cc back in subst (λ y. same_lsp l y ≡ true) one (same_lsp-refl l))
        ]

  -- Either

  keeps-admitted_backup : (out : LinkSpec) (route : List Step) → After (admitted_backup p s c w out route)
  keeps-admitted_backup out route =
      if_cases After (nat_lt LAST_NUMBER s.lsp) _ _ (λ e. keeps-leaves_bare Spent)
      (λ e. if_cases After (is_full s) _ _ (λ f. keeps-leaves_bare Full)
      (λ f. if_cases After (lacks_first_back p s (is_two_way w) (guarding p w) out) _ _
      (λ h. keeps-leaves_bare (Code label_code)) (λ h. keeps-begins_backup out route h)))

  keeps-over_backup : (route : List Step) (o : Option LinkSpec) → After (over_backup p s c w route o)
  keeps-over_backup route None = keeps-leaves_bare NoBackup
  keeps-over_backup route (Some out) = keeps-admitted_backup out (drop 1 route)

  keeps-pair_over : (o : Option (List Step)) → After (pair_over p s c w o)
  keeps-pair_over None = keeps-leaves_bare NoBackup
  keeps-pair_over (Some route) = keeps-over_backup route (first_link p route)

  pub keeps-pair : After (pair p s c w)
  keeps-pair =
      if_cases After (is_some (unknown_link (known_rows p s) (route_from p w))) _ _ (λ e. keeps-leaves_bare NoBackup)
      (λ e. keeps-pair_over (backup_route p s c w))

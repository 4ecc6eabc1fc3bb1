-- The labels that are sent, and those that are about to be, are shared lawfully.
use Rattle.std.proofs.Common.{◌≡◌, true, List, [], refl, sym, subst, ◌∙◌, inl, inr}
use Rattle.std.specs.Prelude.{Some}
use Rattle.ason_base.specs.{Network.Network, Risks.{AreDisjoint, route_risks}, declared.ids.Lsp.Lsp, declared.ids.NodeId.NodeId, declared.steps.Step.Step, declared.tables.Leg.Leg}
use Rattle.mesh_rules.specs.{declared.events.MeshEvent.MeshEvent, Events.after, Machine.{Mesh, start}}
use Rattle.mesh_rules.proofs.Topologies.{topology_searchable}
use Rattle.lsp_laws.specs.{HopLaw.leg_at, LabelLaw.{EverySentLabelIsShared, MayShareLabel, SendLawfully}, RiskLaw.rows_of}
use Rattle.lsp_laws.proofs.{hops.Planned.Routes, nodes.NodeLaws.pairs}
use Rattle.mesh_laws.specs.HeardLaw.{AreBackupsApart, EveryListIsLawful, primary_of, sends_of}
use Rattle.mesh_laws.proofs.{sent.Run.sound, sent.Sound.{Sound, standing}, sent.Standing.{Guarding, Share, Standing, backs, ends-of, guarding}}

-- At each cut of each list

apart-of : (t : Network) (events : List MeshEvent) (l m : Lsp) → Share t (primary_of t start events) l m →
    AreBackupsApart t events l m
apart-of t events l m share = record {
  one = share.one;
  other = share.other;
  one_told = share.one_told;
  other_told = share.other_told;
  apart = λ valid. share.apart (topology_searchable t valid);
}

-- the clause heard
pub every_list : EveryListIsLawful
every_list t events run f x u d apart from to before since is l m this that =
    elim ((sound t events run).1.lawful f x u d apart from to before since is l m this that) [
      | inl same ↦ inl same
      | inr share ↦ inr (apart-of t events l m share)
    ]

-- At a node

module _ (t : Network) (o w : Routes) (s : Mesh) (now : Sound t o w s) (n : NodeId) where
  abbrev stands : Standing t o w s
  stands = standing t o w s now

  one-told : (l : Lsp) (g : Leg) (primary : List Step) → w l ≡ Some primary → (a : Guarding t w l g) →
      a.primary ≡ primary
  one-told l g primary told a = let same : Some a.primary ≡ Some primary = sym a.told ∙ told in cc same

  pub may-send : (l m : Lsp) (g h : Leg) → leg_at s l n ≡ Some g → leg_at s m n ≡ Some h → Share t w l m →
      MayShareLabel t g h
  may-send l m g h at_l at_m share =
      let g_back = backs t o w s stands l n g share.one at_l share.one_told in
      let h_back = backs t o w s stands m n h share.other at_m share.other_told in
      let a = guarding t o w s stands l n g at_l g_back in
      let b = guarding t o w s stands m n h at_m h_back in
      record {
        backups = (g_back, h_back);
        apart = λ valid.
            let searchable = topology_searchable t valid in
            let g_risks = a.risks searchable in
            let h_risks = b.risks searchable in
            let one = one-told l g share.one share.one_told a in
            let other = one-told m h share.other share.other_told b in
            subst (λ k. AreDisjoint k h.risks) (sym (subst (λ k. g.risks ≡ route_risks (rows_of t) k) one g_risks))
            (subst (λ k. AreDisjoint (route_risks (rows_of t) share.one) k)
            (sym (subst (λ k. h.risks ≡ route_risks (rows_of t) k) other h_risks)) (share.apart searchable));
      }

  -- two legs that send one label of one fibre
  pub sent-shared : (l m : Lsp) (g h : Leg) → leg_at s l n ≡ Some g → leg_at s m n ≡ Some h → (l ≡ m → ⊥) →
      SendLawfully t g h
  sent-shared l m g h at_l at_m differ f x this that =
      let ends = ends-of t o w s stands f x l n g at_l this in
      elim (now.lawful f x n ends.to ends.apart ends.sender ends.receiver [] (s.mail ends.to.0 n.0) refl l m
      (subst (λ v. sends_of f x v ≡ true) (sym at_l) this) (subst (λ v. sends_of f x v ≡ true) (sym at_m) that)) [
        | inl same ↦ absurd (differ same)
        | inr share ↦ may-send l m g h at_l at_m share
      ]

-- the clause sent
pub every_sent : EverySentLabelIsShared
every_sent t events run n =
    let s : Mesh = after t start events in
    let all = sound t events run in
    pairs (SendLawfully t) (s.nodes n).legs (all.1.facts.node n).legs_rise
    (λ l m g h at_l at_m differ.
    sent-shared t all.0 (primary_of t start events) s all.1 (record { 0 = n }) l m g h at_l at_m differ)

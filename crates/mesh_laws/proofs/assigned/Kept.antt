-- Which legs keep a new working LSP off a label: where that LSP alone has changed, those that did before.
use Rattle.std.proofs.{Common.{◌≡◌, ◌≤◌, ℕ, Bool, true, false, List, [], refl, sym, ◌∙◌, subst, arith, inl}, lemmas.Bool.{false_from_ne_true, not-true}}
use Rattle.std.specs.{Prelude.{◌&&◌, Some}, List.list_any}
use Rattle.ason_base.specs.{Lsps.same_lsp, Labels.{has, up_to}, Network.Network, declared.calls.Role.Role, declared.calls.Role.TheVariants.Work, declared.ids.Fibre.Fibre, declared.ids.Lsp.Lsp, declared.ids.NodeId.NodeId, declared.network.LinkSpec.LinkSpec, declared.risks.Risk.Risk, declared.tables.Leg.Leg}
use Rattle.ason_base.proofs.{LspOrder.same_lsp-eq, MaskMembers.has-filter, Ordered.there-any, Bools.{and-left, and-right}}
use Rattle.mesh_rules.specs.{Legs.{is_usable, takes, usable}, LocalNodes.{LocalNode, labels_of, own_link}, Machine.Mesh}
use Rattle.lsp_laws.specs.HopLaw.{leg_at}
use Rattle.lsp_laws.proofs.{hops.HopLaws.found_of, nodes.Facts.MeshFacts}
use Rattle.mesh_laws.specs.{CauseLaw.KeepsOff, RestedLaw.Arrives}
use Rattle.mesh_laws.proofs.{assigned.Only.OnlyOf, safe.Light.{arrives-takes, from-has}, surveyed.Rows.find-contains}

-- a usable label is one of the link's, and nobody keeps it off
pub record IsUsable (legs : List Leg) (f : Fibre) (link : LinkSpec) (y : ℕ) : Type 0 where
  pub low : 1 ≤ y
  pub high : y ≤ link.labels
  pub free : KeepsOff legs Work [] f y → ⊥

pub usable-so : (p : LocalNode) (legs : List Leg) (f : Fibre) (link : LinkSpec) (y : ℕ) → own_link p f.link ≡ Some link →
    has (usable p legs Work [] f) y ≡ true → IsUsable legs f link y
usable-so p legs f link y own among =
    let both : (has (up_to (labels_of (own_link p f.link))) y && is_usable Work [] legs f y) ≡ true =
    sym (has-filter (is_usable Work [] legs f) (up_to (labels_of (own_link p f.link))) y) ∙ among in
    let all : has (up_to link.labels) y ≡ true =
    subst (λ o. has (up_to (labels_of o)) y ≡ true) own (and-left _ _ both) in
    let bounds = from-has 1 link.labels y all in
    let low = bounds.0 in
    let high = bounds.1 in
    record {
      low = low;
      high = omega (arith, high);
      free = λ kept. (let some = there-any (takes f y) legs kept.leg kept.there (arrives-takes f y kept.leg kept.arrives) in
          let none : list_any (takes f y) legs ≡ false =
          not-true (list_any (takes f y) legs)
          (and-right (has (up_to (labels_of (own_link p f.link))) y) _ both) in
          cc (some, none));
    }

module _ (t : Network) (s : Mesh) (l : Lsp) (now : Mesh) (facts : MeshFacts t now) (only : OnlyOf s l now) (d : NodeId)
    (f : Fibre) (y : ℕ) where
  -- what keeps it off now, but for its own leg, did then
  pub kept-then : (r : Role) (risks : List Risk) → KeepsOff (now.nodes d.0).legs r risks f y →
      ((g : Leg) → leg_at now l d ≡ Some g → Arrives f y g → ⊥) → KeepsOff (s.nodes d.0).legs Work [] f y
  kept-then r risks kept own = go (same_lsp l kept.leg.lsp) refl
    where
      here : leg_at now kept.leg.lsp d ≡ Some kept.leg
      here = found_of (now.nodes d.0).legs (facts.node d.0).legs_rise kept.leg kept.there

      go : (b : Bool) → same_lsp l kept.leg.lsp ≡ b → KeepsOff (s.nodes d.0).legs Work [] f y
      go true e =
          absurd (own kept.leg (subst (λ j. leg_at now j d ≡ Some kept.leg) (sym (same_lsp-eq l kept.leg.lsp e)) here)
          kept.arrives)
      go false e = record {
        leg = kept.leg;
        there = find-contains _ (s.nodes d.0).legs kept.leg (sym (only.others kept.leg.lsp d e) ∙ here);
        arrives = kept.arrives;
        bars = inl refl;
      }

  -- what kept it off then, where it had no leg, does now
  pub kept-now : ((g : Leg) → leg_at s l d ≡ Some g → ⊥) → (facts_then : MeshFacts t s) →
      KeepsOff (s.nodes d.0).legs Work [] f y → KeepsOff (now.nodes d.0).legs Work [] f y
  kept-now none facts_then kept =
      let here : leg_at s kept.leg.lsp d ≡ Some kept.leg =
      found_of (s.nodes d.0).legs (facts_then.node d.0).legs_rise kept.leg kept.there in
      let apart : same_lsp l kept.leg.lsp ≡ false =
      false_from_ne_true (same_lsp l kept.leg.lsp) (λ e. none kept.leg
      (subst (λ j. leg_at s j d ≡ Some kept.leg) (sym (same_lsp-eq l kept.leg.lsp e)) here)) in
      record {
        leg = kept.leg;
        there = find-contains _ (now.nodes d.0).legs kept.leg (only.others kept.leg.lsp d apart ∙ here);
        arrives = kept.arrives;
        bars = inl refl;
      }

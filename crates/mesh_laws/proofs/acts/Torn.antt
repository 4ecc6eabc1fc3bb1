-- A torn leg has given up the labels that its previous node uses.
use Rattle.std.proofs.{Common.{◌≡◌, Bool, true, false, not, refl, ap, ◌∙◌, inl, inr}, lemmas.List.Elements.All-from_recursion, option.Match.None-if_not_some}
use Rattle.std.specs.Prelude.{◌&&◌, None, is_some}
use Rattle.ason_base.specs.{declared.calls.Phase.Phase, declared.calls.Phase.TheVariants.{Asked, Closing, Falling}, declared.tables.Leg.Leg}
use Rattle.mesh_rules.specs.Legs.{is_closing}
use Rattle.mesh_nodes.proofs.LegList.{all-found}
use Rattle.lsp_laws.proofs.{nodes.Facts.{FitsPhase, LegFacts}, nodes.NodeRuns.facts-hold}
use Rattle.mesh_laws.specs.ActsLaw.{EveryTornLegGivesUp, GivesUpLabels, IsTornPhase}

asked-none : (q : Phase) (g : Leg) → FitsPhase q g → q ≡ Asked → g.in_label ≡ None
asked-none Asked g fits e = fits.0
asked-none _ g fits e = absurd (cc e)

torn-none : (q : Phase) (g : Leg) → FitsPhase q g → IsTornPhase q → g.in_label ≡ None
torn-none Closing g fits e = fits.0
torn-none Falling g fits e = fits.0
torn-none _ g fits (inl e) = absurd (cc e)
torn-none _ g fits (inr e) = absurd (cc e)

torn-closing : (q : Phase) → IsTornPhase q → is_closing q ≡ true
torn-closing q (inl e) = ap is_closing e
torn-closing q (inr e) = ap is_closing e

none-left : (two any : Bool) → (two && (any && false)) ≡ false
none-left true true = refl
none-left true false = refl
none-left false any = refl

gives-up : (n next : _) (g : Leg) → LegFacts n next g → GivesUpLabels g
gives-up n next g facts = record {
  asked = asked-none g.phase g facts.phase;
  torn = λ torn. (
    torn-none g.phase g facts.phase torn,
    (let two = facts.back.0 in
        let closing = torn-closing g.phase torn in
        None-if_not_some g.back_out (facts.back.1.leaves
        ∙ ap (λ b. two && (is_some g.in_fibre && not b)) closing ∙ none-left two (is_some g.in_fibre))),
  );
}

-- over every network and every run
pub every_torn_leg : EveryTornLegGivesUp
every_torn_leg t events run n =
    let facts = (facts-hold t events run).node n in
    All-from_recursion GivesUpLabels _
    (all-found GivesUpLabels _ facts.legs_rise (λ l g found. gives-up n _ g (facts.leg l g found)))

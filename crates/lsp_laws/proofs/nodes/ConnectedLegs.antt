-- An Asked leg whose Resv comes may stand with its label: that is usable for it, and its back label in stays.
use Rattle.std.proofs.{Common.{◌≡◌, ℕ, true, List, refl, sym, ap, subst, ◌∙◌, arith, inl, inr}, lemmas.Bool.or_cases, lemmas.Option.same_Some}
use Rattle.std.specs.Prelude.{Option, Some, None, IsTrue, IfSome, is_some}
use Rattle.ason_base.specs.{Labels.{has, meet}, declared.ids.Fibre.Fibre, declared.ids.NodeId.NodeId, declared.calls.Phase.TheVariants.Asked, declared.tables.Leg.Leg}
use Rattle.mesh_rules.specs.{declared.neighbours.Neighbour.Neighbour, LocalNodes.LocalNode, Legs.{connected, find_leg, is_at, is_closing, is_usable, neighbour_over, reserved, reverse_of, takes, usable, with_leg}}
use Rattle.mesh_rules.proofs.AnswerParts.{reserved-plain}
use Rattle.mesh_nodes.proofs.{LabelPlaces.{at-is, back_in-taken, none-at}, ChosenLabels.{has-left, has-right, usable-is}}
use Rattle.lsp_laws.proofs.{nodes.BackLabels.{back-kept, reserved-stands}, nodes.Facts.LegFacts, nodes.LegParts.{altered-facts, LegPart, MayStand, found-after}, nodes.Marks.may-take, nodes.NewLegs.{phase_reserved, reserved-back}, nodes.Sharing.{TakeOnlyRead, TookBefore, take-same}}

pub record Beside (o : Option NodeId) (f : Option Fibre) (h : Neighbour) : Type 0 where
  pub node : o ≡ Some h.node
  pub fibre : f ≡ Some h.fibre

pub beside : (o : Option NodeId) (f : Option Fibre) (h : Neighbour) → neighbour_over o f ≡ Some h → Beside o f h
beside None f h e = absurd (cc e)
beside (Some n) None h e = absurd (cc e)
beside (Some n) (Some f) h e =
    let is : record { node = n; fibre = f } ≡ h = same_Some _ _ e in
    record { node = ap (λ x. Some x.node) is; fibre = ap (λ x. Some x.fibre) is }

pub alone : (o : Option NodeId) (f : Option Fibre) → is_some f ≡ is_some o → neighbour_over o f ≡ None → o ≡ None
alone None f both e = refl
alone (Some n) None both e = absurd (cc both)
alone (Some n) (Some f) both e = absurd (cc e)

pub alone_fibre : (o : Option NodeId) (f : Option Fibre) → is_some f ≡ is_some o → neighbour_over o f ≡ None → f ≡ None
alone_fibre None None both e = refl
alone_fibre None (Some f) both e = absurd (cc both)
alone_fibre (Some n) None both e = absurd (cc both)
alone_fibre (Some n) (Some f) both e = absurd (cc e)

-- the labels as they should be, in any leg that is otherwise this one
pub connected-facts : (n next : ℕ) (g : Leg) (label : Option ℕ) (x : ℕ) → LegFacts n next g → g.phase ≡ Asked →
    is_some label ≡ is_some g.in_fibre → is_some g.next ≡ true → IfSome label (λ y. IsTrue (has g.offered y)) →
    has g.sent x ≡ true →
    LegFacts n next (connected g label x)
connected-facts n next g label x facts asked fits goes_on offered sent =
    altered-facts n next next g (reserved g.role) label (Some x) g.back_out (omega arith) facts (reserved-back g.role)
    (phase_reserved g.role (connected g label x) (fits, sym (facts.out_fibre ∙ goes_on))) offered sent
    (back-kept g (connected g label x) refl refl refl refl (ap is_closing asked ∙ sym (reserved-stands g.role))
    facts.back)

-- an Asked leg that stands, with a label in that is usable for it, or with none at the ingress
module _ (p : LocalNode) (next : ℕ) (legs : List Leg) (part : LegPart p.id.0 next legs) (g : Leg)
    (found : find_leg g.lsp legs ≡ Some g) (asked : g.phase ≡ Asked) (goes_on : is_some g.next ≡ true) where
  abbrev facts : LegFacts p.id.0 next g
  facts = part.leg g.lsp g found

  stands : (label : Option ℕ) (x : ℕ) → is_some label ≡ is_some g.in_fibre →
      IfSome label (λ y. IsTrue (has g.offered y)) → has g.sent x ≡ true →
      ((f : Fibre) (z : ℕ) → is_at g.in_fibre label f z ≡ true → is_usable g.role g.risks legs f z ≡ true) →
      MayStand p.id.0 next legs (connected g label x)
  stands label x fits offered sent usable_in =
      may-take p.id.0 next legs legs part.labels (take-same legs) (connected g label x)
      (λ f z this. elim (or_cases (is_at g.in_fibre label f z) (is_at (reverse_of g.out_fibre) g.back_in f z) this) [
        | inl on ↦ inl (usable_in f z on)
        | inr back ↦ inr (record { leg = g; found = found; role = refl; risks = refl; took = back_in-taken g f z back })
      ])
      (reserved-plain g.role)
      (connected-facts p.id.0 next g label x facts asked fits goes_on offered sent)

  pub connected-stands : (h : Neighbour) (x y : ℕ) → g.in_fibre ≡ Some h.fibre → has g.sent x ≡ true →
      has (meet g.offered (usable p legs g.role g.risks h.fibre)) y ≡ true →
      MayStand p.id.0 next legs (connected g (Some y) x)
  connected-stands h x y fibre sent looked =
      stands (Some y) x (sym (ap is_some fibre)) (has-left g.offered usable_here y looked) sent
      (λ f z on.
      let at = at-is g.in_fibre (Some y) f z on in
      subst (λ w. is_usable g.role g.risks legs f w ≡ true) (same_Some y z at.1)
      (subst (λ w. is_usable g.role g.risks legs w y ≡ true) (same_Some h.fibre f (sym fibre ∙ at.0))
      (usable-is p legs g.role g.risks h.fibre y (has-right g.offered usable_here y looked))))
    where
      usable_here : List ℕ
      usable_here = usable p legs g.role g.risks h.fibre

  pub ingress-stands : (x : ℕ) → g.in_fibre ≡ None → has g.sent x ≡ true →
      MayStand p.id.0 next legs (connected g None x)
  ingress-stands x none sent =
      stands None x (sym (ap is_some none)) tt sent
      (λ f z on. absurd (let never = none-at g.in_fibre f z in cc (never, on)))

  -- at the ingress it takes what it took
  pub ingress-takes : (x : ℕ) → TakeOnlyRead legs (with_leg (connected g None x) legs)
  ingress-takes x m h f z there this =
      found-after (TookBefore legs h f z) (connected g None x) h legs m there
      (λ own is. subst (λ k. TookBefore legs k f z) is (record {
        leg = g;
        found = found;
        role = refl;
        risks = refl;
        took = elim (or_cases (is_at g.in_fibre None f z) (is_at (reverse_of g.out_fibre) g.back_in f z)
            (subst (λ k. takes f z k ≡ true) (sym is) this)) [
              | inl on ↦ absurd (let never = none-at g.in_fibre f z in cc (never, on))
              | inr back ↦ back_in-taken g f z back
            ];
      }))
      (λ apart stood. take-same legs m h f z stood this)

-- The changes of one answer as they are made: what is left of them, and the claims and the guards in between.
use Rattle.std.proofs.Common.{◌≡◌, ◌≤◌, ℕ, Bool, true, List, [], ◌∷◌, not, refl, sym, ap, subst, ◌∙◌}
use Rattle.std.specs.Prelude.{Option, Some, None, IfSome}
use Rattle.ason_base.specs.{declared.ids.Fibre.Fibre, declared.ids.Lsp.Lsp, declared.tables.Leg.Leg}
use Rattle.link_owner.specs.Owners.{OwnerState, comes_in}
use Rattle.share_check.specs.Guards.{Guard}
use Rattle.mesh_rules.specs.{Legs.{find_leg, leg_changed, with_leg, without_leg}, LocalNodes.LocalNode, declared.changes.LegChange.LegChange, declared.changes.LegChange.TheVariants.{Goes, Put}}
use Rattle.mesh_nodes.specs.Order.{LegsRise}
use Rattle.leg_table.specs.{declared.labels.TakenLabel.TakenLabel, Edits.leg_put, LegClaims.{LabelsFit, MayBeMade, OwnerFits, SameFibres}}
use Rattle.leg_carrying.proofs.{GivenUp.{left-claims, left-guards, less}, HeldLabels.same-held, LeftChanges.{gone-held, last-held, less-new, may-give_up, put-held}, NewLabels.{less-goes, less-put, less-start, new-may}}
use Rattle.leg_labels.proofs.UsableLabels.{usable-unclaimed, usable-within}
use Rattle.leg_carrying.specs.LegHolds.{AreHeld, AreLeft, GivesUp, Hold, MayClaim, MayClaimNew, MayGiveUpAll, TakeNoMoreYet, held_of, is_lost, last_put, lsp_changed, new_label, with_new}

-- At the start

pub start-left : (p : LocalNode) (legs : List Leg) (cs : List LegChange) (o : OwnerState) (s : List Guard) →
    MayBeMade p legs cs → AreHeld (with_new legs (last_put cs) (held_of legs)) o s → AreLeft legs legs cs o s
start-left p legs cs o s may held = record { may = (p, may); less = less cs; held = held }
  where
    less : (cs : List LegChange) → TakeNoMoreYet legs legs cs
    less [] = tt
    less (c ∷ cs) = less-start legs

-- the owner has the label that the last change takes newly
pub may-claim : (p : LocalNode) (legs : List Leg) (o : OwnerState) (s : List Guard) (cs : List LegChange) →
    LegsRise legs → LabelsFit legs o s → OwnerFits p o → MayBeMade p legs cs → MayClaimNew o legs (last_put cs)
may-claim p legs o s cs rise fit owner made = go (last_put cs) refl
  where
    go : (g : Option Leg) → last_put cs ≡ g → MayClaimNew o legs g
    go None last = tt
    go (Some g) last = one (new_label (find_leg g.lsp legs) g) refl
      where
        one : (t : Option TakenLabel) → new_label (find_leg g.lsp legs) g ≡ t → IfSome t (MayClaim o g)
        one None new = tt
        one (Some t) new =
            let may = new-may p legs legs cs g t (less-start legs) made last new in
            let comes : comes_in o.claims t.fibre ≡ true = owner.fibres t.fibre ∙ may.comes_in in
            record {
              comes_in = comes;
              within =
                  subst (λ n. t.label ≤ n) (sym (owner.labels t.fibre comes))
                  (usable-within p legs g.role g.risks t.fibre t.label may.usable);
              free = ap not (usable-unclaimed p legs g.role g.risks o s t.fibre t.label rise fit may.usable);
            }

-- One change

-- its LSP's labels may be given up
pub left-may : (read legs : List Leg) (c : LegChange) (cs : List LegChange) (o : OwnerState) (s : List Guard) (l : Lsp) →
    AreLeft read legs (c ∷ cs) o s → MayGiveUpAll (find_leg l legs) o s
left-may read legs c cs o s l left = may-give_up read legs (last_put (c ∷ cs)) o s l left.less left.held

-- what is held after, where it is what was left
after-held : (l : Lsp) (lost : Fibre → ℕ → Bool) (h k : Fibre → ℕ → Lsp → Option Hold) (o after : OwnerState)
    (s left : List Guard) → AreHeld h o s → GivesUp l lost o.claims after.claims s left → SameFibres o after →
    ((f : Fibre) (x : ℕ) (m : Lsp) → less l lost h f x m ≡ k f x m) → AreHeld k after left
after-held l lost h k o after s left held gives fibres same =
    same-held (less l lost h) k after left same (record {
      claims = left-claims l lost o.claims after.claims s left gives h (λ f. fibres.labels f) held.claims;
      guards = left-guards l lost o.claims after.claims s left gives h held.guards;
    })

goes-left : (read legs : List Leg) (l : Lsp) (cs : List LegChange) (o after : OwnerState) (s left : List Guard) →
    AreLeft read legs (Goes l ∷ cs) o s → GivesUp l (is_lost (find_leg l legs) None) o.claims after.claims s left →
    SameFibres o after → AreLeft read (without_leg l legs) cs after left
goes-left read legs l [] o after s left are gives fibres = record {
  may = are.may;
  less = tt;
  held =
      after-held l (is_lost (find_leg l legs) None) (held_of legs) (held_of (without_leg l legs)) o after s left are.held
      gives fibres (gone-held l legs);
}
goes-left read legs l (c ∷ cs) o after s left are gives fibres = record {
  may = are.may;
  less = less-goes read legs l are.less;
  held =
      after-held l (is_lost (find_leg l legs) None) (with_new read (last_put (c ∷ cs)) (held_of legs))
      (with_new read (last_put (c ∷ cs)) (held_of (without_leg l legs))) o after s left are.held gives fibres
      (less-new read legs (without_leg l legs) (last_put (c ∷ cs)) l None are.less (gone-held l legs));
}

put-left : (read legs : List Leg) (g : Leg) (cs : List LegChange) (o after : OwnerState) (s left : List Guard) →
    AreLeft read legs (Put g ∷ cs) o s →
    GivesUp g.lsp (is_lost (find_leg g.lsp legs) (Some g)) o.claims after.claims s left →
    SameFibres o after → AreLeft read (with_leg g legs) cs after left
put-left read legs g [] o after s left are gives fibres = record {
  may = (are.may.0, tt);
  less = tt;
  held =
      after-held g.lsp (is_lost (find_leg g.lsp legs) (Some g)) (with_new read (Some g) (held_of legs))
      (held_of (with_leg g legs)) o after s left are.held gives fibres
      (last-held are.may.0 read legs g are.less are.may.1.0);
}
put-left read legs g (c ∷ cs) o after s left are gives fibres = record {
  may = (are.may.0, are.may.1.1);
  less = less-put read legs g are.less are.may.1.0;
  held =
      after-held g.lsp (is_lost (find_leg g.lsp legs) (Some g)) (with_new read (last_put (c ∷ cs)) (held_of legs))
      (with_new read (last_put (c ∷ cs)) (held_of (with_leg g legs))) o after s left are.held gives fibres
      (less-new read legs (with_leg g legs) (last_put (c ∷ cs)) g.lsp (Some g) are.less
      (λ f x m. put-held g legs f x m (are.may.1.0 f x)));
}

-- a change
pub change-left : (read legs : List Leg) (c : LegChange) (cs : List LegChange) (o after : OwnerState)
    (s left : List Guard) → AreLeft read legs (c ∷ cs) o s →
    GivesUp (lsp_changed c) (is_lost (find_leg (lsp_changed c) legs) (leg_put c)) o.claims after.claims s left →
    SameFibres o after → AreLeft read (leg_changed c legs) cs after left
change-left read legs (Goes l) cs o after s left are gives fibres =
    goes-left read legs l cs o after s left are gives fibres
change-left read legs (Put g) cs o after s left are gives fibres =
    put-left read legs g cs o after s left are gives fibres

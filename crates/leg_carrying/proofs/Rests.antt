-- Changes that take legs out of use: each leaves its LSP's leg the labels that it had when the rule read it, whatever
-- changed before.
use Rattle.std.proofs.Common.{◌≡◌, ◌∙◌, Bool, true, false, cond, List, [], ◌∷◌, refl, sym, subst}
use Rattle.std.specs.{Prelude.Some, List.AllByRecursion}
use Rattle.ason_base.specs.{Lsps.same_lsp, declared.ids.Lsp.Lsp, declared.tables.Leg.Leg}
use Rattle.mesh_rules.specs.{declared.changes.LegChange.LegChange, declared.changes.LegChange.TheVariants.{Goes, Put}, Legs.{find_leg, is_marked, with_leg}, LocalNodes.LocalNode}
use Rattle.mesh_nodes.proofs.LegList.{find-with_leg, found-lsp, same_lsp-eq}
use Rattle.leg_table.specs.LegClaims.{MayAllMark, MayAllStay, StaysAs, is_own_fibre}
use Rattle.leg_carrying.proofs.{MayMark.dark, MayPut.{found-itself, itself}}

-- the leg is put unmarked, with the labels of its LSP's leg among those that were read
abbrev pub RestsUnmarked : List Leg → LegChange → Type 0
RestsUnmarked read (Goes l) = ⊥
RestsUnmarked read (Put g) = StaysAs read g × (is_marked g ≡ false)

-- each leg that was read stands among the others with the same labels
abbrev Alike : List Leg → List Leg → Type 0
Alike read legs = (l : Lsp) (g : Leg) → find_leg l read ≡ Some g → StaysAs legs g

alike-itself : (legs : List Leg) → Alike legs legs
alike-itself legs l g found = itself legs g (found-itself l legs g found)

module _ (read legs : List Leg) (alike : Alike read legs) (g : Leg) (as_read : StaysAs read g) where
  -- what stays as it was read stays
  stays : StaysAs legs g
  stays =
      let was = as_read.before in
      let now = alike g.lsp was as_read.there in
      record {
        before = now.before;
        there = subst (λ l. find_leg l legs ≡ Some now.before) (found-lsp g.lsp read was as_read.there) now.there;
        role = now.role ∙ as_read.role;
        risks = now.risks ∙ as_read.risks;
        same = λ f x. now.same f x ∙ as_read.same f x;
      }

  alike-with : Alike read (with_leg g legs)
  alike-with l h found = go (same_lsp g.lsp l) refl
    where
      at : find_leg l (with_leg g legs) ≡ cond (same_lsp g.lsp l) (Some g) (find_leg l legs)
      at = find-with_leg g legs l

      is : h.lsp ≡ l
      is = found-lsp l read h found

      go : (b : Bool) → same_lsp g.lsp l ≡ b → StaysAs (with_leg g legs) h
      go true e =
          let was = as_read.before in
          let there : find_leg l read ≡ Some was =
          subst (λ k. find_leg k read ≡ Some was) (same_lsp-eq g.lsp l e) as_read.there in
          let same : was ≡ h = cc (there, found) in
          record {
            before = g;
            there = subst (λ k. find_leg k (with_leg g legs) ≡ Some g) (sym is) (at ∙ rw e refl);
            role = sym as_read.role ∙ rw same refl;
            risks = sym as_read.risks ∙ rw same refl;
            same = λ f x. sym (as_read.same f x) ∙ rw same refl;
          }
      go false e =
          let now = alike l h found in
          record {
            before = now.before;
            there = subst (λ k. find_leg k (with_leg g legs) ≡ Some now.before) (sym is)
                (at ∙ rw e (subst (λ k. find_leg k legs ≡ Some now.before) is now.there));
            role = now.role;
            risks = now.risks;
            same = now.same;
          }

rest-on : (p : LocalNode) (read legs : List Leg) (cs : List LegChange) → Alike read legs →
    AllByRecursion (RestsUnmarked read) cs → MayAllStay legs cs × MayAllMark (is_own_fibre p) legs cs
rest-on p read legs [] alike rest = (tt, tt)
rest-on p read legs (Goes l ∷ cs) alike rest = absurd rest.0
rest-on p read legs (Put g ∷ cs) alike rest =
    let later = rest-on p read (with_leg g legs) cs (alike-with read legs alike g rest.0.0) rest.1 in (
      (stays read legs alike g rest.0.0, later.0),
      (dark (is_own_fibre p) legs g rest.0.1, later.1),
    )

-- the legs that are put keep their labels, and aren't marked
pub rests-calm : (p : LocalNode) (legs : List Leg) (cs : List LegChange) → AllByRecursion (RestsUnmarked legs) cs →
    MayAllStay legs cs × MayAllMark (is_own_fibre p) legs cs
rests-calm p legs cs rest = rest-on p legs legs cs (alike-itself legs) rest

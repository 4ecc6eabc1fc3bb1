-- A tick: how many calls may go back at once.
use Rattle.std.proofs.Common.{◌≡◌, ◌≤◌, ℕ, suc, ◌+◌, ◌*◌, Bool, true, false, cond, not, List, [], ◌∷◌, length, refl, sym, ◌∙◌, subst, arith}
use Rattle.std.specs.{Prelude.{Option, Some, None}, List.AllByRecursion}
use Rattle.mesh_rules.specs.{declared.limits.TheConstants.MOST_LINKS_OF_ROUTE, Legs.{find_leg, leg_of, without_leg}}
use Rattle.ason_base.specs.{Lsps.same_lsp, declared.ids.Lsp.Lsp, declared.tables.CallRec.CallRec, declared.tables.Leg.Leg}
use Rattle.mesh_nodes.proofs.LegList.{find-without_leg, found-lsp}
use Rattle.lsp_laws.proofs.hops.Ticked.{AreCallsApart, HaveTwo}
use Rattle.mesh_laws.specs.Work.{total}

-- a call whose backup has a leg
abbrev pub tick_cost : Option Leg → ℕ
tick_cost None = 0
tick_cost (Some b) = MOST_LINKS_OF_ROUTE

-- What a call may set off at a tick.
abbrev pub cost : List Leg → CallRec → ℕ
cost legs c = tick_cost (leg_of c.back legs)

shorter : (l : Lsp) (legs : List Leg) → length (without_leg l legs) ≤ length legs
shorter l [] = omega arith
shorter l (g ∷ legs) = go (same_lsp g.lsp l) (shorter l legs)
  where
    go : (b : Bool) → length (without_leg l legs) ≤ length legs →
        length (cond (not b) (g ∷ without_leg l legs) (without_leg l legs)) ≤ suc (length legs)
    go true small = omega arith
    go false small = omega arith

-- without a leg that is there, there is one less
fewer : (l : Lsp) (legs : List Leg) (b : Leg) → find_leg l legs ≡ Some b →
    suc (length (without_leg l legs)) ≤ length legs
fewer l [] b is = absurd (cc is)
fewer l (g ∷ legs) b is = go (same_lsp g.lsp l) is (fewer l legs b)
  where
    go : (c : Bool) → cond c (Some g) (find_leg l legs) ≡ Some b →
        (find_leg l legs ≡ Some b → suc (length (without_leg l legs)) ≤ length legs) →
        suc (length (cond (not c) (g ∷ without_leg l legs) (without_leg l legs))) ≤ suc (length legs)
    go true is more = let h = shorter l legs in omega arith
    go false is more = let h = more is in omega arith

-- the leg of another LSP stays
stays-there : (l : Lsp) (legs : List Leg) (x : Option Lsp) (g : Leg) → leg_of x legs ≡ Some g →
    same_lsp l g.lsp ≡ false → leg_of x (without_leg l legs) ≡ Some g
stays-there l legs None g is apart = absurd (cc is)
stays-there l legs (Some k) g is apart =
    let own : g.lsp ≡ k = found-lsp k legs g is in
    let far : same_lsp l k ≡ false = subst (λ (m : Lsp). same_lsp l m ≡ false) own apart in
    find-without_leg l legs k ∙ rw far is

was-there : (l : Lsp) (legs : List Leg) (x : Option Lsp) (g : Leg) → leg_of x (without_leg l legs) ≡ Some g →
    leg_of x legs ≡ Some g
was-there l legs None g is = absurd (cc is)
was-there l legs (Some k) g is = go (same_lsp l k) (sym (find-without_leg l legs k) ∙ is)
  where
    go : (c : Bool) → cond c None (find_leg k legs) ≡ Some g → find_leg k legs ≡ Some g
    go true e = absurd (cc e)
    go false e = e

own-found : (legs : List Leg) (x : Option Lsp) (b : Leg) → leg_of x legs ≡ Some b → find_leg b.lsp legs ≡ Some b
own-found legs None b is = absurd (cc is)
own-found legs (Some k) b is = subst (λ (m : Lsp). find_leg m legs ≡ Some b) (sym (found-lsp k legs b is)) is

-- without the leg of one call the others have theirs
module _ (legs : List Leg) (c : CallRec) (b : Leg) (here : leg_of c.back legs ≡ Some b) where
  one-cheap : (d : CallRec) → HaveTwo legs c d → cost legs d ≤ cost (without_leg b.lsp legs) d
  one-cheap d two = go (leg_of d.back legs) refl
    where
      go : (o : Option Leg) → leg_of d.back legs ≡ o → tick_cost o ≤ tick_cost (leg_of d.back (without_leg b.lsp legs))
      go None is = omega arith
      go (Some g) is = rw (stays-there b.lsp legs d.back g is (two b g here is)) (omega arith)

  all-cheap : (calls : List CallRec) → AllByRecursion (HaveTwo legs c) calls →
      total (cost legs) calls ≤ total (cost (without_leg b.lsp legs)) calls
  all-cheap [] two = omega arith
  all-cheap (d ∷ calls) two =
      let x = one-cheap d two.0 in let y = all-cheap calls two.1 in omega arith

  two-apart : (d : CallRec) (calls : List CallRec) → AllByRecursion (HaveTwo legs d) calls →
      AllByRecursion (HaveTwo (without_leg b.lsp legs) d) calls
  two-apart d [] two = tt
  two-apart d (e ∷ calls) two = (
    λ x y is js. two.0 x y (was-there b.lsp legs d.back x is) (was-there b.lsp legs e.back y js),
    two-apart d calls two.1,
  )

  still-apart : (calls : List CallRec) → AreCallsApart legs calls → AreCallsApart (without_leg b.lsp legs) calls
  still-apart [] apart = tt
  still-apart (d ∷ calls) apart = (two-apart d calls apart.0, still-apart calls apart.1)

-- no more calls have a backup's leg than there are legs
pub few-back : (legs : List Leg) (calls : List CallRec) → AreCallsApart legs calls →
    total (cost legs) calls ≤ MOST_LINKS_OF_ROUTE * length legs
few-back legs [] apart = omega arith
few-back legs (c ∷ calls) apart =
    go (leg_of c.back legs) refl (few-back legs calls apart.1) (λ fewer a. few-back fewer calls a)
  where
    go : (o : Option Leg) → leg_of c.back legs ≡ o → total (cost legs) calls ≤ MOST_LINKS_OF_ROUTE * length legs →
        ((fewer : List Leg) → AreCallsApart fewer calls →
        total (cost fewer) calls ≤ MOST_LINKS_OF_ROUTE * length fewer) →
        tick_cost o + total (cost legs) calls ≤ MOST_LINKS_OF_ROUTE * length legs
    go None is more each = omega arith
    go (Some b) is more each =
        let x = all-cheap legs c b is calls apart.0 in
        let y = each (without_leg b.lsp legs) (still-apart legs c b is calls apart.1) in
        let z = fewer b.lsp legs b (own-found legs c.back b is) in
        omega arith

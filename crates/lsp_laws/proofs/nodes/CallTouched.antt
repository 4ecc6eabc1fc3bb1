-- A call changes, with the leg of one of its LSPs.
use Rattle.std.proofs.Common.{◌≡◌, ℕ, Bool, true, false, cond, nat_eq, List, refl, sym, ap, subst, arith, inr}
use Rattle.std.specs.Prelude.{Option, Some}
use Rattle.ason_base.specs.{declared.ids.CallNo.CallNo, declared.ids.Lsp.Lsp, declared.tables.CallRec.CallRec, declared.tables.Leg.Leg, Lsps.same_lsp}
use Rattle.mesh_rules.specs.{Calls.{find_call, names, with_call}, Legs.find_leg, State.NodeState}
use Rattle.mesh_nodes.proofs.{CallList.rise-with_call, LegList.same_lsp-eq}
use Rattle.lsp_laws.specs.CallLaw.{FitsLegs}
use Rattle.lsp_laws.proofs.{nodes.Facts.NodeFacts, nodes.CallParts.{LegBecomes, CallPart, itself-became, other-stays, put-once, together-part}, nodes.Parts.call_part}

-- a leg that stands becomes itself where nothing changes
pub same-leg : (g : Leg) (legs : List Leg) → find_leg g.lsp legs ≡ Some g → LegBecomes g.lsp (Some g) legs legs
same-leg g legs here m = go (same_lsp g.lsp m) refl
  where
    go : (t : Bool) → same_lsp g.lsp m ≡ t → find_leg m legs ≡ cond t (Some g) (find_leg m legs)
    go true e = subst (λ k. find_leg k legs ≡ Some g) (same_lsp-eq g.lsp m e) here
    go false e = refl

-- the call c, and one of its LSPs
module _ (n : ℕ) (s : NodeState) (facts : NodeFacts n s) (c : CallRec) (found : find_call c.call s.calls ≡ Some c)
    (l : Lsp) (named : names l c ≡ true) where
  -- l is no other call's
  pub of-no-other : (m : CallNo) (d : CallRec) (x : Lsp) → nat_eq c.call.0 m.0 ≡ false → find_call m s.calls ≡ Some d →
      names x d ≡ true → same_lsp l x ≡ false
  of-no-other m d x other there has = go (same_lsp l x) refl
    where
      go : (b : Bool) → same_lsp l x ≡ b → b ≡ false
      go false e = refl
      go true e =
          let is = same_lsp-eq l x e in
          let mine : names x c ≡ true = subst (λ y. names y c ≡ true) is named in
          let one : c.call ≡ m = facts.one_call x c.call m c d found there mine has in
          let same : nat_eq c.call.0 m.0 ≡ true = (let q : c.call.0 ≡ m.0 = ap (λ y. y.0) one in grind arith) in
          absurd (cc (same, other))

  -- the leg of l becomes o, and the call becomes d, which names no other LSP than it did, and this one where a leg
  -- stands
  pub touched-changes : (d : CallRec) (o : Option Leg) (legs' : List Leg) → LegBecomes l o s.legs legs' →
      d.call ≡ c.call →
      FitsLegs n s.lsp legs' d → ((x : Lsp) → names x d ≡ true → names x c ≡ true) →
      ((x : Lsp) → names x c ≡ true → same_lsp l x ≡ false → names x d ≡ true) →
      ((h : Leg) → o ≡ Some h → names l d ≡ true) → CallPart n s.lsp legs' (with_call d s.calls)
  touched-changes d o legs' becomes number fits had keeps stands =
      together-part n s.lsp s.lsp (same_lsp l) c.call (Some d) s.legs legs' s.calls (with_call d s.calls)
      (omega arith) (rise-with_call d s.calls facts.calls_rise)
      (put-once c.call d s.calls number)
      (record {
        stay = λ x other. other-stays l x o s.legs legs' becomes other;
        apart = of-no-other;
        only = λ e x is has. inr
            (let one : d ≡ e = cc is in
            (c, found, had x (subst (λ y. names x y ≡ true) (sym one) has)));
        kept = λ e x there has never.
            (let mine = found in let one : e ≡ c = cc (mine, there) in
            (d, refl, keeps x (subst (λ y. names x y ≡ true) one has) never));
        facts = λ e is. (let one : d ≡ e = cc is in subst (FitsLegs n s.lsp legs') one fits);
        number = λ e is. (let one : d ≡ e = cc is in subst (λ y. y.call ≡ c.call) one number);
        wanted = λ x h same there ingress standing.
            (let is = same_lsp-eq l x same in
            let became = itself-became l x o h s.legs legs' becomes same there in
            (d, refl, subst (λ y. names y d ≡ true) is (stands h became)));
      })
      (call_part n s facts)

-- An answer for one LSP leaves the legs and messages of the others.
use Rattle.std.proofs.{Common.{◌≡◌, Bool, true, false, cond, nat_eq, List, [], ◌∷◌, ◌++◌, refl, ◌∙◌, arith, append-nil}, lemmas.List.Elements.filter-append}
use Rattle.std.specs.Prelude.{filter, map, Option, None}
use Rattle.ason_base.specs.{Lsps.same_lsp, declared.ids.Lsp.Lsp, declared.ids.NodeId.NodeId, declared.messages.Msg.Msg, declared.messages.Msg.TheVariants.{Path, Resv, PathTear, PathErr, Notify}, declared.tables.Leg.Leg, declared.tables.Out.Out}
use Rattle.mesh_rules.specs.{declared.changes.LegChange.LegChange, declared.changes.LegChange.TheVariants.{Goes, Put}, Changes.Answer, Machine.{Mesh, commit, sent_to}, Events.{whole_route, first_route}}
use Rattle.lsp_laws.specs.HopLaw.{lsp_of, is_message_of, messages_of, leg_at, mail_between}
use Rattle.lsp_laws.proofs.{hops.Tables.leg_after, hops.Views.{SendsNoNotice, leg-here}, hops.Sending.sent_of_lsp, hops.Own.{AllLegs, AllSent, IsOf}}

-- no route of another LSP is sent
whole-other : (l k : Lsp) (m : Msg) → lsp_of m ≡ l → same_lsp l k ≡ false → whole_route k m ≡ None
whole-other l k (Path j e link route set up r) own apart = rw (own, apart) refl
whole-other l k (Resv j e link x) own apart = refl
whole-other l k (PathTear j e link) own apart = refl
whole-other l k (PathErr j e at gone code) own apart = refl
whole-other l k (Notify j e at link code) own apart = refl

pub route-other : (l k : Lsp) (outs : List Out) → AllSent l outs → same_lsp l k ≡ false → first_route k outs ≡ None
route-other l k [] own apart = refl
route-other l k (o ∷ outs) own apart =
    rw (whole-other l k o.msg own.0 apart) (route-other l k outs own.2 apart)

-- What is of another LSP stays

leg_after-other : (l k : Lsp) (cs : List LegChange) (o : Option Leg) → AllLegs l cs → same_lsp l k ≡ false →
    leg_after k cs o ≡ o
leg_after-other l k [] o own apart = refl
leg_after-other l k (Goes m ∷ cs) o own apart = rw (own.0, apart) (leg_after-other l k cs o own.1 apart)
leg_after-other l k (Put g ∷ cs) o own apart = rw (own.0, apart) (leg_after-other l k cs o own.1 apart)

-- no Notify is sent
pub sent-plain : (l : Lsp) (outs : List Out) → AllSent l outs → SendsNoNotice outs
sent-plain l [] own = tt
sent-plain l (o ∷ outs) own = (own.1, sent-plain l outs own.2)

sent-other : (l k : Lsp) (b : NodeId) (outs : List Out) → AllSent l outs → same_lsp l k ≡ false →
    sent_of_lsp k outs b ≡ []
sent-other l k b [] own apart = refl
sent-other l k b (o ∷ outs) own apart =
    let more = sent-other l k b outs own.2 apart in
    let never : is_message_of k o.msg ≡ false = rw (own.1, own.0) apart in
    elim (nat_eq o.to.0 b.0) as
    (λ c. messages_of k (map (λ o. o.msg)
    (cond c (o ∷ filter (λ o. nat_eq o.to.0 b.0) outs) (filter (λ o. nat_eq o.to.0 b.0) outs))) ≡ []) [
      | true ↦ rw never more
      | false ↦ more
    ]

pub leg-other : (s : Mesh) (n m : NodeId) (l k : Lsp) (a : Answer) → IsOf l a → same_lsp l k ≡ false →
    leg_at (commit s n.0 a) k m ≡ leg_at s k m
leg-other s n m l k a of apart = go (nat_eq m.0 n.0) refl
  where
    go : (b : Bool) → nat_eq m.0 n.0 ≡ b → leg_at (commit s n.0 a) k m ≡ leg_at s k m
    go true e =
        let is : m.0 ≡ n.0 =
        grind arith in rw is (leg-here s n k a ∙ leg_after-other l k a.legs (leg_at s k n) of.legs apart)
    go false e = rw e refl

pub mail-other : (s : Mesh) (n a b : NodeId) (l k : Lsp) (r : Answer) → IsOf l r → same_lsp l k ≡ false →
    mail_between (commit s n.0 r) k a b ≡ mail_between s k a b
mail-other s n a b l k r of apart =
    elim (nat_eq a.0 n.0) as
    (λ t. messages_of k (cond t (s.mail a.0 b.0 ++ sent_to b.0 r.sent) (s.mail a.0 b.0)) ≡ mail_between s k a b) [
      | true ↦
          filter-append _ (s.mail a.0 b.0) (sent_to b.0 r.sent) ∙
          rw (sent-other l k b r.sent of.sent apart, append-nil) refl
      | false ↦ refl
    ]

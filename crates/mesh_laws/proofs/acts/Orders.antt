-- What an order about a call makes of it, by the test of its rule.
use Rattle.std.proofs.Common.{◌≡◌, Bool, true, cond, nat_eq, List, ◌∷◌, refl, sym, ap, ◌∙◌, subst, inl, inr}
use Rattle.std.specs.Prelude.{◌⊎◌, Option, Some, None}
use Rattle.ason_base.specs.{Network.{IsTopology, Network}, declared.commands.DeskItem.DeskItem, declared.ids.CallNo.CallNo, declared.ids.Lsp.Lsp, declared.ids.NodeId.NodeId, declared.tables.CallRec.CallRec, declared.tables.Leg.Leg}
use Rattle.ason_base.proofs.Numbers.{self-number}
use Rattle.mesh_rules.specs.{declared.events.MeshEvent.MeshEvent, declared.events.MeshEvent.TheVariants.Desk, Calls.{calls_changed, find_call}, Changes.{Answer, changed, nothing}, Events.{IsRun, after, step}, Legs.{find_leg, leg_of, legs_changed}, LocalNodes.{LocalNode, local_node}, Machine.{Mesh, start}, Orders.on_item, Releases.{releases, tears}, State.NodeState}
use Rattle.mesh_nodes.proofs.{CallList.{find-without_call, found-number}, Cases.if_cases}
use Rattle.lsp_laws.specs.{CallLaw.FitsLegs, NodeLaw.{DeskFits, FitsDesk}}
use Rattle.lsp_laws.proofs.{nodes.Facts.MeshFacts, nodes.NodeRuns.facts-hold}
use Rattle.mesh_laws.specs.ActsLaw.{ActsOn, IsTornPhase, IsUnmoved}
use Rattle.mesh_laws.proofs.{acts.Puts.{handled, unmoved, put-found, Puts}, acts.Releases.{tears-torn, then-torn, two-tears, calls-then, IsTornAt}}

module _ (t : Network) (events : List MeshEvent) (valid : IsTopology t) (run : IsRun t start events) (n : NodeId)
    (i : DeskItem) (items : List DeskItem) (first : (after t start events).desks n.0 ≡ i ∷ items) where
  abbrev s : Mesh
  s = after t start events

  abbrev p : LocalNode
  p = local_node t n

  abbrev x : NodeState
  x = (after t start events).nodes n.0

  facts : MeshFacts t (after t start events)
  facts = facts-hold t events run

  -- the first item fits the desk
  pub fits-desk : FitsDesk t n.0 i
  fits-desk = (let fits : DeskFits t n.0 (i ∷ items) = rw first at (facts.desk n.0) in fits.0)

  -- a call fits its legs
  pub fit : (k : CallNo) (c : CallRec) → find_call k ((after t start events).nodes n.0).calls ≡ Some c →
      FitsLegs n.0 ((after t start events).nodes n.0).lsp ((after t start events).nodes n.0).legs c
  fit k c found = (facts.node n.0).call k c found

  -- what it puts stands afterwards
  pub stands-put : (k : CallNo) (P : CallRec → Type 0) →
      Puts k P (on_item (local_node t n) ((after t start events).nodes n.0) i) →
      (d : CallRec) × (find_call k ((step t (after t start events) (Desk n)).nodes n.0).calls ≡ Some d) × P d
  stands-put k P put =
      subst (λ (y : NodeState). (d : CallRec) × (find_call k y.calls ≡ Some d) × P d)
      (sym (handled t s n i items first)) (put-found x k P (on_item p x i) put)

  -- where the rule changes nothing, nothing changes
  pub stays-so : on_item (local_node t n) ((after t start events).nodes n.0) i ≡ nothing →
      IsUnmoved (after t start events) (step t (after t start events) (Desk n))
  stays-so none = unmoved t s n i items first none

  -- an order about the call k, whose rule asks for the call and makes `then` of it where the test passes
  pub by-test : (k : CallNo) (May : CallRec → Type 0) (Becomes : CallRec → CallRec → Type 0)
      (rule : Option CallRec → Answer) (test : CallRec → Bool) (then : CallRec → Answer) →
      on_item (local_node t n) ((after t start events).nodes n.0) i
      ≡ rule (find_call k ((after t start events).nodes n.0).calls) →
      rule None ≡ nothing → ((c : CallRec) → rule (Some c) ≡ cond (test c) (then c) nothing) →
      ((c : CallRec) → May c → test c ≡ true) → ((c : CallRec) → test c ≡ true → May c) →
      ((c : CallRec) → find_call k ((after t start events).nodes n.0).calls ≡ Some c → May c →
      Puts k (Becomes c) (then c)) →
      ActsOn (after t start events) (step t (after t start events) (Desk n)) n.0 k May Becomes
  by-test k May Becomes rule test then is none some to from puts = record {
    acts = λ c found may.
        stands-put k (Becomes c)
        (subst (Puts k (Becomes c))
        (sym (is ∙ ap rule found ∙ some c ∙ ap (λ b. cond b (then c) nothing) (to c may))) (puts c found may));
    else_stays = λ never. stays-so (is ∙ go never (find_call k x.calls) refl);
  }
    where
      go : ((c : CallRec) → find_call k ((after t start events).nodes n.0).calls ≡ Some c → May c → ⊥) →
          (o : Option CallRec) → find_call k ((after t start events).nodes n.0).calls ≡ o → rule o ≡ nothing
      go never None e = none
      go never (Some c) e = some c ∙ if_cases (λ a. a ≡ nothing) (test c) (then c) nothing
          (λ h. absurd (never c e (from c h))) (λ h. refl)

  -- A release

  module _ (k : CallNo) (c : CallRec) (found : find_call k ((after t start events).nodes n.0).calls ≡ Some c)
      (is : on_item (local_node t n) ((after t start events).nodes n.0) i
      ≡ releases ((after t start events).nodes n.0) c) where
    abbrev work : Option Leg
    work = leg_of c.work ((after t start events).nodes n.0).legs

    abbrev back : Option Leg
    back = leg_of c.back ((after t start events).nodes n.0).legs

    now : (step t (after t start events) (Desk n)).nodes n.0
        ≡ changed ((after t start events).nodes n.0) (releases ((after t start events).nodes n.0) c)
    now = handled t s n i items first ∙ ap (changed x) is

    -- the call is gone
    pub release-gone : find_call k ((step t (after t start events) (Desk n)).nodes n.0).calls ≡ None
    release-gone =
        let number : c.call ≡ k = found-number k x.calls c found in
        ap (λ (y : NodeState). find_call k y.calls) now
        ∙ ap (λ cs. find_call k (calls_changed cs x.calls)) (calls-then work back c.call)
        ∙ find-without_call c.call x.calls k
        ∙ ap (λ b. cond b None (find_call k x.calls)) (ap (λ (m : CallNo). nat_eq m.0 k.0) number ∙ self-number k.0)

    legs-now : ((step t (after t start events) (Desk n)).nodes n.0).legs
        ≡ legs_changed (tears back).legs (legs_changed (tears work).legs ((after t start events).nodes n.0).legs)
    legs-now = ap (λ (y : NodeState). y.legs) now ∙ two-tears work back x.legs

    named-torn : (l : Lsp) → (c.work ≡ Some l) ⊎ (c.back ≡ Some l) →
        IsTornAt l (legs_changed (tears back).legs (legs_changed (tears work).legs
        ((after t start events).nodes n.0).legs))
    named-torn l (inl of) =
        tears-torn back (legs_changed (tears work).legs x.legs) l
        (inl (tears-torn work x.legs l (inr (ap (λ o. leg_of o x.legs) of))))
    named-torn l (inr of) =
        let own : back ≡ find_leg l x.legs = ap (λ o. leg_of o x.legs) of in
        elim (then-torn work x.legs l (find_leg l x.legs) refl) [
          | inl torn ↦ tears-torn back (legs_changed (tears work).legs x.legs) l (inl torn)
          | inr still ↦ tears-torn back (legs_changed (tears work).legs x.legs) l (inr (own ∙ sym still))
        ]

    -- and each leg of it is torn
    pub release-torn : (l : Lsp) (g : Leg) → (c.work ≡ Some l) ⊎ (c.back ≡ Some l) →
        find_leg l ((step t (after t start events) (Desk n)).nodes n.0).legs ≡ Some g → IsTornPhase g.phase
    release-torn l g of here = named-torn l of g (sym (ap (find_leg l) legs-now) ∙ here)

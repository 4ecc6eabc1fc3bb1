-- The event that handles the first item of a desk, and answers that put one call.
use Rattle.std.proofs.Common.{◌≡◌, ℕ, Bool, true, false, cond, nat_eq, List, [], ◌∷◌, ◌++◌, append-nil, refl, sym, ap, ◌∙◌, subst}
use Rattle.std.specs.Prelude.{Some}
use Rattle.ason_base.specs.{Network.Network, declared.commands.DeskItem.DeskItem, declared.ids.CallNo.CallNo, declared.ids.NodeId.NodeId, declared.tables.CallRec.CallRec}
use Rattle.ason_base.proofs.Numbers.{self-number}
use Rattle.mesh_rules.specs.declared.changes.CallChange.TheVariants as call
use Rattle.mesh_rules.specs.{declared.events.MeshEvent.TheVariants.Desk, Calls.{calls_changed, find_call}, Changes.{Answer, changed, nothing}, Events.step, LocalNodes.local_node, Machine.Mesh, Orders.on_item, State.NodeState}
use Rattle.mesh_nodes.proofs.CallList.{find-with_call}
use Rattle.mesh_laws.specs.ActsLaw.{IsUnmoved}

-- the node keeps what the rule of its first item makes of it
pub handled : (t : Network) (s : Mesh) (n : NodeId) (i : DeskItem) (items : List DeskItem) → s.desks n.0 ≡ i ∷ items →
    (step t s (Desk n)).nodes n.0 ≡ changed (s.nodes n.0) (on_item (local_node t n) (s.nodes n.0) i)
handled t s n i items is = rw (is, self-number n.0) refl

-- where the rule changes nothing, nothing changes
pub unmoved : (t : Network) (s : Mesh) (n : NodeId) (i : DeskItem) (items : List DeskItem) → s.desks n.0 ≡ i ∷ items →
    on_item (local_node t n) (s.nodes n.0) i ≡ nothing → IsUnmoved s (step t s (Desk n))
unmoved t s n i items is none = rw is (record {
  nodes = λ m. rw none (node m (nat_eq m n.0));
  mail = λ u d. rw none (mail u d (nat_eq u n.0));
})
  where
    node : (m : ℕ) (b : Bool) → cond b (s.nodes m) (s.nodes m) ≡ s.nodes m
    node m true = refl
    node m false = refl

    mail : (u d : ℕ) (b : Bool) → cond b (s.mail u d ++ []) (s.mail u d) ≡ s.mail u d
    mail u d true = append-nil (s.mail u d)
    mail u d false = refl

-- Calls that are put

-- the answer puts one call in place, of which P holds
pub record Puts (k : CallNo) (P : CallRec → Type 0) (a : Answer) : Type 0 where
  pub one : CallRec
  pub puts : a.calls ≡ call.Put one ∷ []
  pub number : one.call ≡ k
  pub holds : P one

-- that call stands afterwards
pub put-found : (s : NodeState) (k : CallNo) (P : CallRec → Type 0) (a : Answer) → Puts k P a →
    (d : CallRec) × (find_call k (changed s a).calls ≡ Some d) × P d
put-found s k P a put =
    let test : nat_eq put.one.call.0 k.0 ≡ true =
    subst (λ m. nat_eq m.0 k.0 ≡ true) (sym put.number) (self-number k.0) in (
      put.one,
      ap (λ cs. find_call k (calls_changed cs s.calls)) put.puts ∙ find-with_call put.one s.calls k
          ∙ ap (λ b. cond b (Some put.one) (find_call k s.calls)) test,
      put.holds,
    )

-- the same of another name of the number
pub renumber : (k m : CallNo) (P : CallRec → Type 0) (a : Answer) → k ≡ m → Puts k P a → Puts m P a
renumber k m P a is put = subst (λ x. Puts x P a) is put

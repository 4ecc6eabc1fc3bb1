-- Before an order that is posted alone is handled nothing changes but what is learnt.
use Rattle.std.proofs.{Common.{◌≡◌, ℕ, Bool, true, false, cond, nat_eq, not, List, [], ◌∷◌, ◌++◌, append-nil, drop, refl, sym, ap, ◌∙◌, subst, arith, inl, inr}, lemmas.List.Elements.recursion_from_All}
use Rattle.std.specs.{Prelude.{◌⊎◌, ◌&&◌, Option, Some, None}, List.AllByRecursion}
use Rattle.ason_base.specs.{Network.{Network, find_link, row_of}, declared.commands.DeskItem.DeskItem, declared.ids.Lsp.Lsp, declared.ids.NodeId.NodeId, declared.network.LinkSpec.LinkSpec, declared.tables.CallRec.CallRec, declared.tables.Out.Out}
use Rattle.ason_base.proofs.{Numbers.self-number, JoinedEnds.same-node}
use Rattle.mesh_rules.specs.{declared.events.MeshEvent.MeshEvent, declared.events.MeshEvent.TheVariants.{Take, Desk, Tick, Learn, Post}, Calls.{calls_changed, is_turned}, Changes.{Answer, changed, down_after, followed_by, learns, lsp_after, nothing, tunnel_after}, Events.{has_first, is_enabled, on_first_item, sent_at_ingress, step}, KnownRows.{has_row, known_rows}, Learnt.on_link, Legs.legs_changed, LocalNodes.{LocalNode, local_node}, Machine.{Mesh, commit, sent_to, with_item, without_item}, Orders.on_item, Quiet.IsQuiet, State.NodeState, Turns.has_any, Waits.{all_ticked, on_tick, call_ticked}}
use Rattle.mesh_nodes.proofs.Cases.{if_cases}
use Rattle.mesh_laws.specs.{RetryLaw.{IsLeftAlone, NoneWaits}, WaitLaw.Waits}
use Rattle.mesh_laws.proofs.moves.Waits.{test-waits}

-- an answer that changes nothing but what is learnt, and sends nothing
pub record IsStill (a : Answer) : Type 0 where
  pub legs : a.legs ≡ []
  pub calls : a.calls ≡ []
  pub numbers : a.numbers ≡ None
  pub down : a.down ≡ None
  pub sent : a.sent ≡ []

pub still-nothing : IsStill nothing
still-nothing = record { legs = refl; calls = refl; numbers = refl; down = refl; sent = refl }

pub still-link : (p : LocalNode) (x : NodeState) (found : Option LinkSpec) → IsStill (on_link p x found)
still-link p x None = still-nothing
still-link p x (Some l) =
    if_cases IsStill (has_row (known_rows p x) l.id) nothing (learns (row_of l)) (λ h. still-nothing)
    (λ h. record { legs = refl; calls = refl; numbers = refl; down = refl; sent = refl })

-- the call doesn't count ticks
abbrev pub IsTimeless : ℕ → CallRec → Type 0
IsTimeless wait c = Waits wait c → ⊥

then-still : (a b : Answer) → IsStill a → IsStill b → IsStill (followed_by a b)
then-still a b first next = record {
  legs = rw (first.legs, next.legs) refl;
  calls = rw (first.calls, next.calls) refl;
  numbers = rw (first.numbers, next.numbers) refl;
  down = rw (first.down, next.down) refl;
  sent = rw (first.sent, next.sent) refl;
}

-- where no call waits a tick does nothing
pub still-tick : (p : LocalNode) (x : NodeState) → AllByRecursion (IsTimeless p.wait) x.calls → IsStill (on_tick p x)
still-tick p x none = each x.calls none
  where
    one : (c : CallRec) → IsTimeless p.wait c → IsStill (call_ticked p.wait x.legs c)
    one c never =
        if_cases IsStill (not (nat_eq p.wait 0) && (is_turned c.state && not (has_any c.work_reports))) _ _
        (λ e. absurd (never (test-waits p.wait c e))) (λ e. still-nothing)

    each : (calls : List CallRec) → AllByRecursion (IsTimeless p.wait) calls → IsStill (all_ticked p.wait x.legs calls)
    each [] none = still-nothing
    each (c ∷ calls) none =
        then-still (call_ticked p.wait x.legs c) (all_ticked p.wait x.legs calls) (one c none.0) (each calls none.1)

still-node : (x : NodeState) (a : Answer) → IsStill a → changed x a ≡ record x { learnt = (changed x a).learnt }
still-node x a still =
    let legs = ap (λ cs. legs_changed cs x.legs) still.legs in
    let calls = ap (λ cs. calls_changed cs x.calls) still.calls in
    let tunnel = ap (λ m. tunnel_after m x.tunnel) still.numbers in
    let lsp = ap (λ m. lsp_after m x.lsp) still.numbers in
    let down = ap (λ fs. down_after fs x.down) still.down in
    λ i. record x {
      legs = legs i;
      calls = calls i;
      tunnel = tunnel i;
      lsp = lsp i;
      down = down i;
      learnt = (changed x a).learnt;
    }

-- since s nothing has changed but what is learnt, and this item is on the desk of n alone
pub record Pending (s : Mesh) (n : NodeId) (item : DeskItem) (now : Mesh) : Type 0 where
  pub nodes : (m : ℕ) → now.nodes m ≡ record (s.nodes m) { learnt = (now.nodes m).learnt }
  pub mail : (u d : ℕ) → now.mail u d ≡ []
  pub here : now.desks n.0 ≡ item ∷ []
  pub others : (m : ℕ) → nat_eq m n.0 ≡ false → now.desks m ≡ []

-- as it is posted
pub posted-pends : (s : Mesh) (n : NodeId) (item : DeskItem) → IsQuiet s → Pending s n item (with_item s n.0 item)
posted-pends s n item quiet = record {
  nodes = λ m. refl;
  mail = quiet.mail;
  here = at-node (nat_eq n.0 n.0) (self-number n.0);
  others = λ m e. elsewhere m (nat_eq m n.0) e;
}
  where
    at-node : (d : Bool) → d ≡ true → cond d (s.desks n.0 ++ item ∷ []) (s.desks n.0) ≡ item ∷ []
    at-node true e = ap (λ items. items ++ item ∷ []) (quiet.desks n.0)
    at-node false e = absurd (cc e)

    elsewhere : (m : ℕ) (d : Bool) → d ≡ false → cond d (s.desks m ++ item ∷ []) (s.desks m) ≡ []
    elsewhere m true e = absurd (cc e)
    elsewhere m false e = quiet.desks m

same-mail : {X : Type 0} (c : Bool) (xs : List X) → xs ≡ [] → cond c (xs ++ []) xs ≡ []
same-mail true xs none = append-nil xs ∙ none
same-mail false xs none = none

module _ (t : Network) (s : Mesh) (n : NodeId) (item : DeskItem) (now : Mesh) (pending : Pending s n item now) where
  pub timeless : NoneWaits t s → (m : ℕ) → AllByRecursion (IsTimeless t.wait) (now.nodes m).calls
  timeless none m =
      subst (AllByRecursion (IsTimeless t.wait)) (sym (ap (λ (x : NodeState). x.calls) (pending.nodes m)))
      (recursion_from_All (IsTimeless t.wait) (s.nodes m).calls (none m))

  pends-still : (m : NodeId) (a : Answer) → IsStill a → Pending s n item (commit now m.0 a)
  pends-still m a still = record {
    nodes = λ i. node i (nat_eq i m.0);
    mail = λ u d. ap (λ outs. cond (nat_eq u m.0) (now.mail u d ++ sent_to d outs) (now.mail u d)) still.sent
        ∙ same-mail (nat_eq u m.0) (now.mail u d) (pending.mail u d);
    here = pending.here;
    others = pending.others;
  }
    where
      node : (i : ℕ) (b : Bool) → cond b (changed (now.nodes i) a) (now.nodes i)
          ≡ record (s.nodes i) { learnt = (cond b (changed (now.nodes i) a) (now.nodes i)).learnt }
      node i true =
          still-node (now.nodes i) a still
          ∙ ap (λ (x : NodeState). record x { learnt = (changed (now.nodes i) a).learnt }) (pending.nodes i)
      node i false = pending.nodes i

  -- Over each event it stays so, and nothing is sent, or the item is handled.
  pub pends-on : (e : MeshEvent) → IsLeftAlone t s e → is_enabled t now e ≡ true →
      (Pending s n item (step t now e) × ((l : Lsp) → sent_at_ingress t now e l ≡ []))
      ⊎ ((e ≡ Desk n) × (step t now e ≡ commit (without_item now n.0) n.0 (on_item (local_node t n) (now.nodes n.0) item)))
  pends-on (Take d u) alone enabled =
      absurd (let none : has_first (now.mail u.0 d.0) ≡ false = rw (pending.mail u.0 d.0) refl in cc (none, enabled))
  pends-on (Desk m) alone enabled = go (nat_eq m.0 n.0) refl
    where
      go : (d : Bool) → nat_eq m.0 n.0 ≡ d →
          (Pending s n item (step t now (Desk m)) × ((l : Lsp) → sent_at_ingress t now (Desk m) l ≡ []))
          ⊎ ((Desk m ≡ Desk n) × (step t now (Desk m) ≡ commit (without_item now n.0) n.0 (on_item (local_node t n) (now.nodes n.0) item)))
      go true e =
          let is : m ≡ n = (let number : m.0 ≡ n.0 = grind arith in same-node m n number) in
          inr (
            ap (λ (j : NodeId). Desk j) is,
            ap (λ (j : NodeId). step t now (Desk j)) is
                ∙ ap (λ items. commit (without_item now n.0) n.0 (on_first_item (local_node t n) (now.nodes n.0) items))
                pending.here,
          )
      go false e =
          absurd (let none : has_first (now.desks m.0) ≡ false = rw (pending.others m.0 e) refl in cc (none, enabled))
  pends-on (Tick m) alone enabled =
      let still = still-tick (local_node t m) (now.nodes m.0) (timeless alone m.0) in
      inl (
        pends-still m (on_tick (local_node t m) (now.nodes m.0)) still,
        λ l. (ap (λ outs. cond (nat_eq m.0 l.ingress.0) outs []) still.sent ∙ none-sent (nat_eq m.0 l.ingress.0)),
      )
    where
      none-sent : (b : Bool) → ◌≡◌ {A = List Out} (cond b [] []) []
      none-sent true = refl
      none-sent false = refl
  pends-on (Learn m j) alone enabled =
      inl (
        pends-still m (on_link (local_node t m) (now.nodes m.0) (find_link t j))
            (still-link (local_node t m) (now.nodes m.0) (find_link t j)),
        λ l. refl,
      )
  pends-on (Post y) alone enabled = absurd alone

  -- once it is handled each desk is empty
  pub desks-empty : (m : ℕ) → (without_item now n.0).desks m ≡ []
  desks-empty m = empty (nat_eq m n.0) refl
    where
      empty : (d : Bool) → nat_eq m n.0 ≡ d → cond d (drop 1 (now.desks m)) (now.desks m) ≡ []
      empty true e =
          let is : n.0 ≡ m = grind arith in
          subst (λ j. drop 1 (now.desks j) ≡ []) is (ap (drop 1) pending.here)
      empty false e = pending.others m e

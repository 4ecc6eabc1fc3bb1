-- An order leaves the legs of the LSPs of other calls as they are, by cases of the rules.
use Rattle.std.proofs.Common.{◌≡◌, ℕ, Bool, true, false, not, cond, nat_eq, nat_lt, List, [], ◌∷◌, ◌++◌, refl, sym, ap, ◌∙◌, arith, inl, inr}
use Rattle.std.specs.Prelude.{◌&&◌, ◌⊎◌, Option, Some, None, drop, is_some}
use Rattle.ason_base.specs.{Lsps.{has_fibre, same_lsp}, Risks.unknown_link, declared.calls.Role.TheVariants.Work, declared.commands.Command.TheVariants.{Setup, Release, Protect, Retry, Revert, Fail, Repair}, declared.commands.DeskItem.DeskItem, declared.commands.DeskItem.TheVariants.{Order, Alarm, Clear}, declared.ids.CallNo.CallNo, declared.ids.Lsp.Lsp, declared.ids.NodeId.NodeId, declared.network.LinkSpec.LinkSpec, declared.steps.Step.Step, declared.tables.CallRec.CallRec, declared.tables.Leg.Leg}
use Rattle.ason_base.specs.declared.messages.PathRole.TheVariants as path
use Rattle.ason_base.proofs.Numbers.{self-number}
use Rattle.mesh_rules.specs.{declared.changes.LegChange.LegChange, declared.changes.LegChange.TheVariants.{Goes, Put}, declared.limits.TheConstants.LAST_NUMBER, Alarms.enters, Calls.{find_call, is_bare, is_stuck, is_turned}, Changes.Answer, Events.after, FirstLegs.{first_link, is_full, lacks_first_back}, KnownRows.known_rows, LeastRoutes.{Trip, least_trip}, Legs.{find_leg, is_contended, is_held, is_in_use, leg_changed, leg_of, legs_changed}, LocalNodes.{LocalNode, local_node, own_link}, Machine.start, Orders.on_item, Pairs.{backup_route, beside_lsp, guarding, is_two_way, over_backup, pair_over, route_from}, Protects.{protect_with, protects}, Releases.{release_with, tears}, Retries.retry_with, Reverts.revert_with, Setups.{SetupRequest, admitted_setup, is_order_here, is_spent, new_call, next_lsp, over_first, over_found, setup_with}, State.NodeState, Turns.{go_back, has_any, turn}}
use Rattle.mesh_nodes.proofs.{Cases.if_cases, LegList.{find-with_leg, find-without_leg, found-lsp, same_lsp-eq}}
use Rattle.lsp_laws.proofs.{nodes.Facts.NodeFacts, nodes.NodeRuns.facts-hold, hops.NamedPhases.named_is}
use Rattle.mesh_laws.specs.OthersLaw.{EveryOrderLeavesOtherLegs, is_order_of}
use Rattle.mesh_laws.proofs.acts.Puts.{handled}

-- the changes are of legs of other LSPs
abbrev Spares : Lsp → List LegChange → Type 0
Spares l [] = Unit {0}
Spares l (Goes m ∷ cs) = (same_lsp m l ≡ false) × Spares l cs
Spares l (Put h ∷ cs) = (same_lsp h.lsp l ≡ false) × Spares l cs

spared : (l : Lsp) (cs : List LegChange) (legs : List Leg) → Spares l cs →
    find_leg l (legs_changed cs legs) ≡ find_leg l legs
spared l [] legs others = refl
spared l (Goes m ∷ cs) legs others =
    spared l cs (leg_changed (Goes m) legs) others.1 ∙ find-without_leg m legs l
    ∙ ap (λ b. cond b None (find_leg l legs)) others.0
spared l (Put h ∷ cs) legs others =
    spared l cs (leg_changed (Put h) legs) others.1 ∙ find-with_leg h legs l
    ∙ ap (λ b. cond b (Some h) (find_leg l legs)) others.0

-- l is an LSP whose leg stands at the node
module _ (n : ℕ) (p : LocalNode) (own : p.id.0 ≡ n) (s : NodeState) (facts : NodeFacts n s) (l : Lsp) (g : Leg)
    (here : find_leg l s.legs ≡ Some g) where
  abbrev Leaves : Answer → Type 0
  Leaves a = Spares l a.legs

  -- no call of which it is names the LSP
  abbrev IsFree : CallRec → Type 0
  IsFree c = (c.work ≡ Some l) ⊎ (c.back ≡ Some l) → ⊥

  -- the next number is that of another LSP
  fresh : (m : Lsp) → m.ingress.0 ≡ n → m.lsp ≡ s.lsp → same_lsp m l ≡ false
  fresh m begins next = go (same_lsp m l) refl
    where
      go : (b : Bool) → same_lsp m l ≡ b → b ≡ false
      go false e = refl
      go true e =
          let is : m ≡ g.lsp = same_lsp-eq m l e ∙ sym (found-lsp l s.legs g here) in
          let below = (facts.leg l g here).number (ap (λ (x : Lsp). x.ingress.0) (sym is) ∙ begins) in
          let number : g.lsp.lsp ≡ s.lsp = ap (λ (x : Lsp). x.lsp) (sym is) ∙ next in
          absurd (omega (arith, below, number))

  -- the leg of an LSP that the call names is that of another one
  leg-other : (o : Option Lsp) (h : Leg) → leg_of o s.legs ≡ Some h → (o ≡ Some l → ⊥) → same_lsp h.lsp l ≡ false
  leg-other None h there never = absurd (cc there)
  leg-other (Some m) h there never = go (same_lsp h.lsp l) refl
    where
      go : (b : Bool) → same_lsp h.lsp l ≡ b → b ≡ false
      go false e = refl
      go true e = absurd (never (ap Some (sym (found-lsp m s.legs h there) ∙ same_lsp-eq h.lsp l e)))

  -- A setup

  admitted-leaves : (w : SetupRequest) (out : LinkSpec) (route : List Step) → Leaves (admitted_setup p s w out route)
  admitted-leaves w out route =
      if_cases Leaves (is_spent s) _ _ (λ e. tt)
      (λ e. if_cases Leaves (is_full s) _ _ (λ f. tt)
      (λ f. if_cases Leaves (lacks_first_back p s w.both (path.Work w.protected) out) _ _ (λ h. tt)
      (λ h. (fresh (next_lsp p s) own refl, tt))))

  first-leaves : (w : SetupRequest) (route : List Step) (o : Option LinkSpec) → Leaves (over_first p s w route o)
  first-leaves w route None = tt
  first-leaves w route (Some out) = admitted-leaves w out (drop 1 route)

  found-leaves : (w : SetupRequest) (o : Option Trip) → Leaves (over_found p s w o)
  found-leaves w None = tt
  found-leaves w (Some r) = first-leaves w r.steps (first_link p r.steps)

  new-leaves : (w : SetupRequest) (o : Option (List Step)) → Leaves (new_call p s w o)
  new-leaves w None = found-leaves w (least_trip (known_rows p s) p.id w.egress)
  new-leaves w (Some route) = first-leaves w route (first_link p route)

  setup-leaves : (w : SetupRequest) (o : Option CallRec) → Leaves (setup_with p s w o)
  setup-leaves w (Some c) = tt
  setup-leaves w None = if_cases Leaves (is_order_here p w) _ _ (λ e. new-leaves w w.via) (λ e. tt)

  -- A release

  both-torn : (w b : Option Leg) → ((h : Leg) → w ≡ Some h → same_lsp h.lsp l ≡ false) →
      ((h : Leg) → b ≡ Some h → same_lsp h.lsp l ≡ false) → Spares l ((tears w).legs ++ ((tears b).legs ++ []))
  both-torn None None work back = tt
  both-torn None (Some b) work back = (back b refl, tt)
  both-torn (Some w) None work back = (work w refl, tt)
  both-torn (Some w) (Some b) work back = (work w refl, (back b refl, tt))

  release-leaves : (from : NodeId) (o : Option CallRec) → ((c : CallRec) → o ≡ Some c → IsFree c) →
      Leaves (release_with p s from o)
  release-leaves from None free = tt
  release-leaves from (Some c) free =
      if_cases Leaves (nat_eq from.0 p.id.0) _ _
      (λ e. both-torn (leg_of c.work s.legs) (leg_of c.back s.legs)
      (λ h there. leg-other c.work h there (λ is. free c refl (inl is)))
      (λ h there. leg-other c.back h there (λ is. free c refl (inr is)))) (λ e. tt)

  -- A protect

  over-leaves : (c : CallRec) (w : Leg) (route : List Step) (o : Option LinkSpec) → w.lsp.ingress.0 ≡ n →
      Leaves (over_backup p s c w route o)
  over-leaves c w route None begins = tt
  over-leaves c w route (Some out) begins =
      if_cases Leaves (nat_lt LAST_NUMBER s.lsp) _ _ (λ e. tt)
      (λ e. if_cases Leaves (is_full s) _ _ (λ f. tt)
      (λ f. if_cases Leaves (lacks_first_back p s (is_two_way w) (guarding p w) out) _ _ (λ h. tt)
      (λ h. (fresh (beside_lsp w.lsp s.lsp) begins refl, tt))))

  pair_over-leaves : (c : CallRec) (w : Leg) (o : Option (List Step)) → w.lsp.ingress.0 ≡ n →
      Leaves (pair_over p s c w o)
  pair_over-leaves c w None begins = tt
  pair_over-leaves c w (Some route) begins = over-leaves c w route (first_link p route) begins

  protects-leaves : (c : CallRec) (o : Option Leg) → ((w : Leg) → o ≡ Some w → w.lsp.ingress.0 ≡ n) →
      Leaves (protects p s c o)
  protects-leaves c None begins = tt
  protects-leaves c (Some w) begins =
      if_cases Leaves (is_some (unknown_link (known_rows p s) (route_from p w))) _ _ (λ e. tt)
      (λ e. pair_over-leaves c w (backup_route p s c w) (begins w refl))

  work-begins : (k : CallNo) (c : CallRec) → find_call k s.calls ≡ Some c → (w : Leg) →
      leg_of c.work s.legs ≡ Some w → w.lsp.ingress.0 ≡ n
  work-begins k c found w there = go c.work refl there
    where
      go : (o : Option Lsp) → c.work ≡ o → leg_of o s.legs ≡ Some w → w.lsp.ingress.0 ≡ n
      go None is at = absurd (cc at)
      go (Some m) is at =
          ap (λ (x : Lsp). x.ingress.0) (found-lsp m s.legs w at)
          ∙ (named_is n s.lsp s.legs Work c.egress c.work m (facts.call k c found).work is).ingress

  protect-leaves : (k : CallNo) (from : NodeId) (o : Option CallRec) → find_call k s.calls ≡ o →
      Leaves (protect_with p s from o)
  protect-leaves k from None is = tt
  protect-leaves k from (Some c) is =
      if_cases Leaves (nat_eq from.0 p.id.0 && is_bare c.state) _ _
      (λ e. protects-leaves c (leg_of c.work s.legs) (work-begins k c is)) (λ e. tt)

  -- A retry, a revert

  turn-leaves : (c : CallRec) (o : Option Leg) → ((h : Leg) → o ≡ Some h → same_lsp h.lsp l ≡ false) →
      Leaves (turn s.legs c o)
  turn-leaves c None other = tt
  turn-leaves c (Some b) other =
      if_cases Leaves (is_held b.phase) _ _
      (λ e. if_cases Leaves (is_contended s.legs b) _ _ (λ f. tt) (λ f. (other b refl, tt))) (λ e. tt)

  back-leaves : (c : CallRec) (o : Option Leg) → ((h : Leg) → o ≡ Some h → same_lsp h.lsp l ≡ false) →
      Leaves (go_back c o)
  back-leaves c None other = tt
  back-leaves c (Some b) other = if_cases Leaves (is_in_use b.phase) _ _ (λ e. (other b refl, tt)) (λ e. tt)

  retry-leaves : (from : NodeId) (o : Option CallRec) → ((c : CallRec) → o ≡ Some c → IsFree c) →
      Leaves (retry_with p s from o)
  retry-leaves from None free = tt
  retry-leaves from (Some c) free =
      if_cases Leaves (nat_eq from.0 p.id.0) _ _
      (λ e. if_cases Leaves (is_stuck c.state && (has_any c.work_reports && not (has_any c.back_reports))) _ _
      (λ f. turn-leaves c (leg_of c.back s.legs) (λ h there. leg-other c.back h there (λ is. free c refl (inr is))))
      (λ f. tt)) (λ e. tt)

  revert-leaves : (from : NodeId) (o : Option CallRec) → ((c : CallRec) → o ≡ Some c → IsFree c) →
      Leaves (revert_with p s from o)
  revert-leaves from None free = tt
  revert-leaves from (Some c) free =
      if_cases Leaves (nat_eq from.0 p.id.0) _ _
      (λ e. if_cases Leaves (is_turned c.state && not (has_any c.work_reports)) _ _
      (λ f. back-leaves c (leg_of c.back s.legs) (λ h there. leg-other c.back h there (λ is. free c refl (inr is))))
      (λ f. tt)) (λ e. tt)

  -- any item of a desk
  item-leaves : (i : DeskItem) → ((k : CallNo) (c : CallRec) → is_order_of k i ≡ true →
      find_call k s.calls ≡ Some c → IsFree c) → Leaves (on_item p s i)
  item-leaves (Order (Setup k from to protected both via backup)) free =
      setup-leaves
      (record { call = k; from = from; egress = to; protected = protected; both = both; via = via; backup = backup })
      (find_call k s.calls)
  item-leaves (Order (Release k from)) free =
      release-leaves from (find_call k s.calls) (λ c found. free k c (self-number k.0) found)
  item-leaves (Order (Protect k from)) free = protect-leaves k from (find_call k s.calls) refl
  item-leaves (Order (Retry k from)) free =
      retry-leaves from (find_call k s.calls) (λ c found. free k c (self-number k.0) found)
  item-leaves (Order (Revert k from)) free =
      revert-leaves from (find_call k s.calls) (λ c found. free k c (self-number k.0) found)
  item-leaves (Order (Fail h)) free = tt
  item-leaves (Order (Repair h)) free = tt
  item-leaves (Alarm f) free =
      if_cases Leaves (enters p f (own_link p f.link) && not (has_fibre s.down f)) _ _ (λ e. tt) (λ e. tt)
  item-leaves (Clear f) free =
      if_cases Leaves (enters p f (own_link p f.link) && has_fibre s.down f) _ _ (λ e. tt) (λ e. tt)

-- over every network and every run
pub every_order_leaves : EveryOrderLeavesOtherLegs
every_order_leaves t events run n i items first l g here free =
    let s : NodeState = (after t start events).nodes n.0 in
    let a : Answer = on_item (local_node t n) s i in
    ap (λ (y : NodeState). find_leg l y.legs) (handled t (after t start events) n i items first)
    ∙ spared l a.legs s.legs
    (item-leaves n.0 (local_node t n) refl s ((facts-hold t events run).node n.0) l g here i free) ∙ here

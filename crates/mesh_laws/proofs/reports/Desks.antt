-- The items of each desk, one after the other on what the node knows to be down, tell which fibres are physically down.
use Rattle.std.proofs.{Common.{◌≡◌, ℕ, Bool, true, false, cond, nat_eq, not, List, [], ◌∷◌, drop, refl, sym, ap, ◌∙◌, subst, arith, Contains}, Math.Bool.or_comm}
use Rattle.std.specs.Prelude.{◌||◌, ◌&&◌, Option, Some, None}
use Rattle.ason_base.specs.{Lsps.{has_fibre, same_fibre}, Network.{Network, find_link, row_of, touches}, declared.commands.Command.Command, declared.commands.Command.TheVariants.{Setup, Release, Protect, Retry, Revert, Fail, Repair}, declared.commands.DeskItem.DeskItem, declared.commands.DeskItem.TheVariants.{Order, Alarm, Clear}, declared.commands.Group.Group, declared.ids.Fibre.Fibre, declared.ids.NodeId.NodeId, declared.messages.Msg.Msg, declared.network.LinkSpec.LinkSpec}
use Rattle.ason_base.proofs.{LinkOrder.{LinksRiseAbove, links-rise}, LspOrder.{same_bool-refl, same_fibre-eq}}
use Rattle.mesh_rules.specs.{declared.events.MeshEvent.MeshEvent, declared.events.MeshEvent.TheVariants.{Take, Desk, Tick, Learn, Post}, Alarms.enters, Changes.{Answer, changed, down_after, learns, nothing}, Events.{after, on_first, on_first_item, posted, step}, Failures.{all_news, is_cut, with_failed, with_group, without_group}, KnownRows.{has_row, known_rows}, Learnt.on_link, LocalNodes.{LocalNode, fibre_in, local_node, own_link}, Machine.{Mesh, commit, start, with_item, without_item}, Orders.on_item, State.NodeState, Waits.on_tick}
use Rattle.mesh_nodes.proofs.{Cases.if_cases, LearnsNothing.{message-keeps_down, order-keeps_down, tick-keeps_down}}
use Rattle.lsp_laws.specs.ReportLaw.{DesksTell, EveryDeskTellsFailures, after_item, after_items}
use Rattle.mesh_laws.proofs.{reports.KnownFibres.{has-less, has-more}, reports.LinkNews.{items-after, news-tell}, reports.OwnLinks.found-own}

-- One item

-- the fibre of an own link of the node comes in there
enters-own : (t : Network) (n : NodeId) (l : LinkSpec) → LinksRiseAbove 0 t.links → Contains t.links l →
    touches n l ≡ true →
    enters (local_node t n) (fibre_in l n) (own_link (local_node t n) l.id) ≡ true
enters-own t n l rise there end =
    let found : own_link (local_node t n) l.id ≡ Some l = found-own n 0 t.links l rise there end in
    subst (λ o. enters (local_node t n) (fibre_in l n) o ≡ true) (sym found) (same_bool-refl (nat_eq l.high.0 n.0))

module _ (p : LocalNode) (s : NodeState) (f : Fibre) (here : enters p f (own_link p f.link) ≡ true) where
  -- an alarm that changes nothing tells nothing new of a fibre that comes in here
  alarm-vain : (g : Fibre) → (enters p g (own_link p g.link) && not (has_fibre s.down g)) ≡ false →
      has_fibre s.down f ≡ (same_fibre f g || has_fibre s.down f)
  alarm-vain g vain = go (same_fibre f g) refl
    where
      known : (has : Bool) → (true && not has) ≡ false → has ≡ true
      known true e = refl
      known false e = absurd (cc e)

      go : (same : Bool) → same_fibre f g ≡ same → has_fibre s.down f ≡ (same || has_fibre s.down f)
      go true e =
          let at_f : (enters p f (own_link p f.link) && not (has_fibre s.down f)) ≡ false =
          subst (λ (k : Fibre). (enters p k (own_link p k.link) && not (has_fibre s.down k)) ≡ false)
          (sym (same_fibre-eq f g e)) vain in
          known (has_fibre s.down f) (rw here at at_f)
      go false e = refl

  -- and so does a clear
  clear-vain : (g : Fibre) → (enters p g (own_link p g.link) && has_fibre s.down g) ≡ false →
      has_fibre s.down f ≡ (not (same_fibre f g) && has_fibre s.down f)
  clear-vain g vain = go (same_fibre f g) refl
    where
      go : (same : Bool) → same_fibre f g ≡ same → has_fibre s.down f ≡ (not same && has_fibre s.down f)
      go true e =
          let at_f : (enters p f (own_link p f.link) && has_fibre s.down f) ≡ false =
          subst (λ (k : Fibre). (enters p k (own_link p k.link) && has_fibre s.down k) ≡ false)
          (sym (same_fibre-eq f g e)) vain in
          rw here at at_f
      go false e = refl

  -- what is known to be down after an item is what the item tells
  item-told : (i : DeskItem) → has_fibre (changed s (on_item p s i)).down f ≡ after_item f (has_fibre s.down f) i
  item-told (Order c) = ap (λ d. has_fibre (down_after d s.down) f) (order-keeps_down p s c)
  item-told (Alarm g) =
      if_cases (λ (a : Answer). has_fibre (changed s a).down f ≡ (same_fibre f g || has_fibre s.down f))
      (enters p g (own_link p g.link) && not (has_fibre s.down g)) _ _
      (λ e. has-more s.down f g ∙ or_comm (has_fibre s.down f) (same_fibre f g)) (alarm-vain g)
  item-told (Clear g) =
      if_cases (λ (a : Answer). has_fibre (changed s a).down f ≡ (not (same_fibre f g) && has_fibre s.down f))
      (enters p g (own_link p g.link) && has_fibre s.down g) _ _ (λ e. has-less s.down f g) (clear-vain g)

  -- the first item goes, and what the desk tells in the end stays
  first_item-told : (items : List DeskItem) →
      after_items f (has_fibre (changed s (on_first_item p s items)).down f) (drop 1 items)
      ≡ after_items f (has_fibre s.down f) items
  first_item-told [] = refl
  first_item-told (i ∷ items) = ap (λ b. after_items f b items) (item-told i)

-- Answers that tell nothing of fibres

first-keeps_down : (p : LocalNode) (s : NodeState) (u : NodeId) (ms : List Msg) → (on_first p s u ms).down ≡ None
first-keeps_down p s u [] = refl
first-keeps_down p s u (m ∷ ms) = message-keeps_down p s u m

link-keeps_down : (p : LocalNode) (s : NodeState) (o : Option LinkSpec) → (on_link p s o).down ≡ None
link-keeps_down p s None = refl
link-keeps_down p s (Some l) =
    if_cases (λ (a : Answer). a.down ≡ None) (has_row (known_rows p s) l.id) nothing (learns (row_of l)) (λ e. refl)
    (λ e. refl)

-- each node knows of fibres what it knew before
pub same-down : (s : Mesh) (n : ℕ) (a : Answer) → a.down ≡ None → (m : ℕ) →
    ((commit s n a).nodes m).down ≡ (s.nodes m).down
same-down s n a none m =
    if_cases (λ (x : NodeState). x.down ≡ (s.nodes m).down) (nat_eq m n) _ _
    (λ e. ap (λ d. down_after d (s.nodes m).down) none) (λ e. refl)

-- Events

module _ (t : Network) (s : Mesh) (tell : DesksTell t s) where
  commit-tells : (n : ℕ) (a : Answer) → a.down ≡ None → DesksTell t (commit s n a)
  commit-tells n a none m l there end =
      ap (λ fibres. after_items (fibre_in l m) (has_fibre fibres (fibre_in l m)) (s.desks m.0))
      (same-down s n a none m.0) ∙ tell m l there end

  -- an order more on a desk
  order-tells : (n : ℕ) (c : Command) → DesksTell t (with_item s n (Order c))
  order-tells n c m l there end =
      if_cases (λ items. after_items (fibre_in l m) (has_fibre (s.nodes m.0).down (fibre_in l m)) items
      ≡ is_cut s.failed l) (nat_eq m.0 n) _ _
      (λ e. items-after (fibre_in l m) (has_fibre (s.nodes m.0).down (fibre_in l m)) (s.desks m.0) (Order c ∷ [])
      ∙ tell m l there end)
      (λ e. tell m l there end)

  failed-tells : LinksRiseAbove 0 t.links → (after : List Group) → DesksTell t (with_failed t s after)
  failed-tells rise after m l there end =
      items-after (fibre_in l m) (has_fibre (s.nodes m.0).down (fibre_in l m)) (s.desks m.0)
      (all_news t s.failed after m.0)
      ∙ ap (λ b. after_items (fibre_in l m) b (all_news t s.failed after m.0)) (tell m l there end)
      ∙ news-tell s.failed after m 0 t.links l rise there end

  posted-tells : LinksRiseAbove 0 t.links → (c : Command) → DesksTell t (posted t s c)
  posted-tells rise (Setup n from to protected both via backup) =
      order-tells from.0 (Setup n from to protected both via backup)
  posted-tells rise (Release n from) = order-tells from.0 (Release n from)
  posted-tells rise (Protect n from) = order-tells from.0 (Protect n from)
  posted-tells rise (Retry n from) = order-tells from.0 (Retry n from)
  posted-tells rise (Revert n from) = order-tells from.0 (Revert n from)
  posted-tells rise (Fail g) = failed-tells rise (with_group g s.failed)
  posted-tells rise (Repair g) = failed-tells rise (without_group g s.failed)

  -- the first item of the desk of n is handled
  desk-tells : LinksRiseAbove 0 t.links → (n : NodeId) →
      DesksTell t (commit (without_item s n.0) n.0 (on_first_item (local_node t n) (s.nodes n.0) (s.desks n.0)))
  desk-tells rise n m l there end = go (nat_eq m.0 n.0) refl
    where
      f : Fibre
      f = fibre_in l m

      answer : NodeId → Answer
      answer k = on_first_item (local_node t k) (s.nodes k.0) (s.desks k.0)

      Told : Answer → Type 0
      Told a = after_items f (has_fibre (changed (s.nodes m.0) a).down f) (drop 1 (s.desks m.0)) ≡ is_cut s.failed l

      same-node : nat_eq m.0 n.0 ≡ true → m ≡ n
      same-node e = let is : m.0 ≡ n.0 = grind arith in λ i. record { 0 = is i }

      here : Told (answer m)
      here =
          first_item-told (local_node t m) (s.nodes m.0) f (enters-own t m l rise there end) (s.desks m.0)
          ∙ tell m l there end

      go : (b : Bool) → nat_eq m.0 n.0 ≡ b →
          after_items f (has_fibre (cond b (changed (s.nodes m.0) (answer n)) (s.nodes m.0)).down f)
          (cond b (drop 1 (s.desks m.0)) (s.desks m.0)) ≡ is_cut s.failed l
      go true e = subst (λ k. Told (answer k)) (same-node e) here
      go false e = tell m l there end

  step-tells : LinksRiseAbove 0 t.links → (e : MeshEvent) → DesksTell t (step t s e)
  step-tells rise (Take d u) =
      commit-tells d.0 (on_first (local_node t d) (s.nodes d.0) u (s.mail u.0 d.0))
      (first-keeps_down (local_node t d) (s.nodes d.0) u (s.mail u.0 d.0))
  step-tells rise (Desk n) = desk-tells rise n
  step-tells rise (Tick n) =
      commit-tells n.0 (on_tick (local_node t n) (s.nodes n.0)) (tick-keeps_down (local_node t n) (s.nodes n.0))
  step-tells rise (Learn n k) =
      commit-tells n.0 (on_link (local_node t n) (s.nodes n.0) (find_link t k))
      (link-keeps_down (local_node t n) (s.nodes n.0) (find_link t k))
  step-tells rise (Post c) = posted-tells rise c

-- Runs

run-tells : (t : Network) (s : Mesh) (events : List MeshEvent) → LinksRiseAbove 0 t.links → DesksTell t s →
    DesksTell t (after t s events)
run-tells t s [] rise tell = tell
run-tells t s (e ∷ events) rise tell = run-tells t (step t s e) events rise (step-tells t s tell rise e)

-- at the start nothing has failed, and nobody was told anything
pub every_desk_tells : EveryDeskTellsFailures
every_desk_tells t events valid run = run-tells t start events (links-rise t valid) (λ n l there end. refl)

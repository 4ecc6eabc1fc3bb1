-- Each fibre that a node knows to be down comes in there, after each answer.
use Rattle.std.proofs.{Common.{◌≡◌, not, List, [], ◌∷◌, sym, subst}, ByRecursion.All-append}
use Rattle.std.specs.{Prelude.{◌&&◌, Option, Some, None}, List.AllByRecursion}
use Rattle.ason_base.specs.{declared.commands.DeskItem.DeskItem, declared.commands.DeskItem.TheVariants.{Order, Alarm, Clear}, declared.ids.NodeId.NodeId, declared.messages.Msg.Msg, declared.network.LinkSpec.LinkSpec, Lsps.has_fibre, Network.row_of}
use Rattle.ason_base.proofs.{Bools.and-left, Members.all-filter}
use Rattle.mesh_rules.specs.{Alarms.enters, Changes.{Answer, changed, down_after, learns, nothing}, Events.{on_first, on_first_item}, KnownRows.{has_row, known_rows}, Learnt.on_link, LocalNodes.{LocalNode, own_link}, Orders.on_item, State.NodeState, Waits.on_tick}
use Rattle.mesh_nodes.proofs.{Cases.if_cases, LearnsNothing.{message-keeps_down, order-keeps_down, tick-keeps_down}}
use Rattle.mesh_laws.specs.KnownLaw.{ComesIn}

module _ (p : LocalNode) (s : NodeState) (known : AllByRecursion (ComesIn p) s.down) where
  abbrev Knows : Answer → Type 0
  Knows a = AllByRecursion (ComesIn p) (changed s a).down

  same-knows : (a : Answer) → a.down ≡ None → Knows a
  same-knows a none = subst (λ d. AllByRecursion (ComesIn p) (down_after d s.down)) (sym none) known

  item-knows : (i : DeskItem) → Knows (on_item p s i)
  item-knows (Order c) = same-knows (on_item p s (Order c)) (order-keeps_down p s c)
  item-knows (Alarm f) =
      if_cases Knows (enters p f (own_link p f.link) && not (has_fibre s.down f)) _ _
      (λ e. All-append (ComesIn p) s.down (f ∷ []) known (and-left _ (not (has_fibre s.down f)) e, tt))
      (λ e. known)
  item-knows (Clear f) =
      if_cases Knows (enters p f (own_link p f.link) && has_fibre s.down f) _ _
      (λ e. all-filter (ComesIn p) _ s.down known) (λ e. known)

  pub first_item-knows : (items : List DeskItem) → Knows (on_first_item p s items)
  first_item-knows [] = known
  first_item-knows (i ∷ items) = item-knows i

  pub first-knows : (u : NodeId) (ms : List Msg) → Knows (on_first p s u ms)
  first-knows u [] = known
  first-knows u (m ∷ ms) = same-knows (on_first p s u (m ∷ ms)) (message-keeps_down p s u m)

  pub tick-knows : Knows (on_tick p s)
  tick-knows = same-knows (on_tick p s) (tick-keeps_down p s)

  pub link-knows : (o : Option LinkSpec) → Knows (on_link p s o)
  link-knows None = known
  link-knows (Some l) =
      if_cases Knows (has_row (known_rows p s) l.id) nothing (learns (row_of l)) (λ e. known) (λ e. known)

-- While only alarms wait on desks and only Notifies of failures are on their way, no Notify of a repair is sent.
use Rattle.std.proofs.{Common.{List, [], nat_eq, not, refl, ℕ, ◌++◌, ◌∷◌}, ByRecursion.All-append}
use Rattle.std.specs.{Prelude.{None, Option, Some, drop, ◌&&◌}, List.AllByRecursion}
use Rattle.ason_base.specs.{Lsps.has_fibre, Network.{Network, find_link, row_of}, Codes.fibre_down_code, declared.commands.DeskItem.DeskItem, declared.commands.DeskItem.TheVariants.{Alarm, Clear, Order}, declared.ids.Fibre.Fibre, declared.ids.NodeId.NodeId, declared.messages.Msg.Msg, declared.network.LinkSpec.LinkSpec, declared.tables.Leg.Leg, declared.tables.Out.Out}
use Rattle.mesh_rules.specs.{declared.events.MeshEvent.MeshEvent, declared.events.MeshEvent.TheVariants.{Desk, Learn, Post, Take, Tick}, Changes.{Answer, learns, nothing}, Legs.previous, State.NodeState, Waits.on_tick, LocalNodes.{LocalNode, local_node, own_link}, declared.neighbours.Neighbour.Neighbour, Alarms.{enters, is_hit, notice_of, notices, notify_to, on_alarm}, Events.{on_first, on_first_item, step}, Learnt.on_link, KnownRows.{has_row, known_rows}, Machine.{Mesh, commit, sent_to, without_first, without_item}}
use Rattle.mesh_nodes.proofs.Cases.{if_cases}
use Rattle.mesh_laws.proofs.{alone.Fine.{all-drop, all-sent}, soon.CallsSayDown.{AllDown, IsDown, sent-all_ticked}, soon.MessagesSayDown.message-sends}
use Rattle.mesh_laws.specs.SoonLaw.{PostsNothing}

-- an alarm
abbrev pub IsAlarm : DeskItem → Type 0
IsAlarm (Order c) = ⊥
IsAlarm (Alarm f) = Unit {0}
IsAlarm (Clear f) = ⊥

module _ (p : LocalNode) (s : NodeState) where
  abbrev Holds : Answer → Type 0
  Holds a = AllDown a.sent

  told-out : (f : Fibre) (g : Leg) (o : Option Neighbour) → AllDown (notify_to p f fibre_down_code g o)
  told-out f g None = tt
  told-out f g (Some h) = (refl, tt)

  notices-out : (f : Fibre) (legs : List Leg) → AllDown (notices p f fibre_down_code legs)
  notices-out f [] = tt
  notices-out f (g ∷ legs) =
      All-append (λ (o : Out). IsDown o.msg) (notice_of p f fibre_down_code g) (notices p f fibre_down_code legs)
      (if_cases AllDown (is_hit f g) _ _ (λ e. told-out f g (previous g)) (λ e. tt)) (notices-out f legs)

  sent-alarm : (f : Fibre) → Holds (on_alarm p s f)
  sent-alarm f =
      if_cases Holds (enters p f (own_link p f.link) && not (has_fibre s.down f)) _ _
      (λ e. notices-out f s.legs) (λ e. tt)

  sent-link : (o : Option LinkSpec) → Holds (on_link p s o)
  sent-link None = tt
  sent-link (Some l) =
      if_cases Holds (has_row (known_rows p s) l.id) nothing (learns (row_of l)) (λ e. tt) (λ e. tt)

  first-sends : (u : NodeId) (ms : List Msg) → AllByRecursion IsDown ms → Holds (on_first p s u ms)
  first-sends u [] all = tt
  first-sends u (m ∷ ms) all = message-sends p s u m all.0

  item-sends : (items : List DeskItem) → AllByRecursion IsAlarm items → Holds (on_first_item p s items)
  item-sends [] all = tt
  item-sends (Order x ∷ items) all = absurd all.0
  item-sends (Alarm f ∷ items) all = sent-alarm f
  item-sends (Clear f ∷ items) all = absurd all.0

-- A state

-- alarms alone are on desks, and no message tells of a repair
pub record NoneUp (s : Mesh) : Type 0 where
  pub mail : (u d : ℕ) → AllByRecursion IsDown (s.mail u d)
  pub desks : (n : ℕ) → AllByRecursion IsAlarm (s.desks n)

sent-mail : (s : Mesh) (n : ℕ) (a : Answer) → AllDown a.sent → ((u d : ℕ) → AllByRecursion IsDown (s.mail u d)) →
    (u d : ℕ) → AllByRecursion IsDown ((commit s n a).mail u d)
sent-mail s n a sent old u d =
    if_cases (AllByRecursion IsDown) (nat_eq u n) (s.mail u d ++ sent_to d a.sent) (s.mail u d)
    (λ e. All-append IsDown (s.mail u d) (sent_to d a.sent) (old u d) (all-sent IsDown d a.sent sent)) (λ e. old u d)

first-gone : (s : Mesh) (x y : ℕ) → ((u d : ℕ) → AllByRecursion IsDown (s.mail u d)) → (u d : ℕ) →
    AllByRecursion IsDown ((without_first s x y).mail u d)
first-gone s x y old u d =
    if_cases (AllByRecursion IsDown) (nat_eq u x && nat_eq d y) (drop 1 (s.mail u d)) (s.mail u d)
    (λ e. all-drop IsDown (s.mail u d) (old u d)) (λ e. old u d)

item-gone : (s : Mesh) (m : ℕ) → ((n : ℕ) → AllByRecursion IsAlarm (s.desks n)) → (n : ℕ) →
    AllByRecursion IsAlarm ((without_item s m).desks n)
item-gone s m old n =
    if_cases (AllByRecursion IsAlarm) (nat_eq n m) (drop 1 (s.desks n)) (s.desks n)
    (λ e. all-drop IsAlarm (s.desks n) (old n)) (λ e. old n)

-- Nothing of a repair comes up while nothing is posted.
pub none-up : (t : Network) (s : Mesh) (e : MeshEvent) → PostsNothing e → NoneUp s → NoneUp (step t s e)
none-up t s (Take b a) only old = record {
  mail = sent-mail (without_first s a.0 b.0) b.0 (on_first (local_node t b) (s.nodes b.0) a (s.mail a.0 b.0))
      (first-sends (local_node t b) (s.nodes b.0) a (s.mail a.0 b.0) (old.mail a.0 b.0))
      (first-gone s a.0 b.0 old.mail);
  desks = old.desks;
}
none-up t s (Desk n) only old = record {
  mail = sent-mail (without_item s n.0) n.0 (on_first_item (local_node t n) (s.nodes n.0) (s.desks n.0))
      (item-sends (local_node t n) (s.nodes n.0) (s.desks n.0) (old.desks n.0)) old.mail;
  desks = item-gone s n.0 old.desks;
}
none-up t s (Tick n) only old = record {
  mail = sent-mail s n.0 (on_tick (local_node t n) (s.nodes n.0))
      (sent-all_ticked (local_node t n) (s.nodes n.0) (s.nodes n.0).calls) old.mail;
  desks = old.desks;
}
none-up t s (Learn n k) only old = record {
  mail = sent-mail s n.0 (on_link (local_node t n) (s.nodes n.0) (find_link t k))
      (sent-link (local_node t n) (s.nodes n.0) (find_link t k)) old.mail;
  desks = old.desks;
}
none-up t s (Post x) only old = absurd only

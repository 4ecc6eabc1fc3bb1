-- Over each event the work falls, but for what the event adds.
use Rattle.std.proofs.Common.{◌≡◌, ◌≤◌, ℕ, ◌+◌, ◌*◌, true, List, [], ◌∷◌, length, refl, sym, subst, arith}
use Rattle.std.specs.Prelude.{None}
use Rattle.mesh_rules.specs.{declared.limits.TheConstants.{MOST_LEGS, MOST_LINKS_OF_ROUTE}, declared.events.MeshEvent.MeshEvent, Changes.Answer, Events.{has_first, is_enabled, on_first, on_first_item, or_route, posted, step}, Failures.{with_group, without_group}, Learnt.on_link, Legs.leg_of, LocalNodes.local_node, Machine.{Mesh, commit, without_first, without_item}, Orders.on_item, Waits.on_tick}
use Rattle.ason_base.specs.{Network.{Network, find_link}, declared.ids.NodeId.NodeId, declared.commands.Command.Command, declared.commands.Command.TheVariants.{Setup, Release, Protect, Retry, Revert, Fail, Repair}, declared.commands.DeskItem.DeskItem, declared.commands.DeskItem.TheVariants.Order, declared.messages.Msg.Msg}
use Rattle.mesh_rules.specs.declared.events.MeshEvent.TheVariants as event
use Rattle.mesh_nodes.specs.FitNodes.{NodeFits}
use Rattle.mesh_nodes.proofs.CallList.{all-calls_found}
use Rattle.lsp_laws.proofs.{nodes.Facts.MeshFacts, hops.Stepped.grown, hops.HopLaws.step_facts, hops.Planned.or_none, hops.Run.{Carried, StepFacts, backs_here, calls_may_pair, link_quiet, step_routes}, hops.Ticked.all_ticked_stays, hops.Turned.BackFits}
use Rattle.mesh_laws.specs.{Weights.FirstRoutes, Work.WorkIsWithin, RestLaw.{adds, handles}}
use Rattle.mesh_laws.proofs.{rest.Expanded.{Expands, expands-known}, rest.Grown.grows-quiet, rest.ItemRests.item-expands, rest.PostRests.{failed-more, item-dropped, item-more}, rest.TakeRests.take-rests, rest.TickGrows.tick-grows, rest.TurnRests.AreShort}

-- what holds in every state, and what each step needs
pub record RestFacts (t : Network) (s : Mesh) (o : FirstRoutes) : Type 0 where
  pub facts : MeshFacts t s
  pub carried : Carried t s o
  pub short : AreShort o
  pub fits : (n : NodeId) → NodeFits (local_node t n) (s.nodes n.0)

-- over one event the work falls, but for what the event adds
pub record Lightens (t : Network) (s : Mesh) (o : FirstRoutes) (e : MeshEvent) (w : ℕ) : Type 0 where
  pub left : ℕ
  pub within : WorkIsWithin (step_routes t s e o) (step t s e) left
  -- Each enabled event is paid for: what it handles and what is left are within what was there and what it adds.
  pub falls : handles e + left ≤ w + adds t e

-- and the routes that are begun are short
pub record Falls (t : Network) (s : Mesh) (o : FirstRoutes) (e : MeshEvent) (w : ℕ) : Type 0 where
  pub lightens : Lightens t s o e w
  pub short : AreShort (step_routes t s e o)

none-sent : (o : FirstRoutes) → o ≡ (λ l. or_route (o l) None)
none-sent o = λ i l. sym (or_none (o l)) i

module _ (t : Network) (s : Mesh) (o : FirstRoutes) (rest : RestFacts t s o) (w : ℕ) (within : WorkIsWithin o s w) where
  here : StepFacts t s
  here = step_facts t s rest.facts

  few : (n : NodeId) → length (s.nodes n.0).legs ≤ MOST_LEGS
  few n = (rest.fits n).legs.few

  take-falls : (d u : NodeId) (ms : List Msg) → s.mail u.0 d.0 ≡ ms → has_first ms ≡ true →
      (left : ℕ) × WorkIsWithin (grown d o (on_first (local_node t d) (s.nodes d.0) u ms))
      (commit (without_first s u.0 d.0) d.0 (on_first (local_node t d) (s.nodes d.0) u ms)) left × (1 + left ≤ w) ×
      AreShort (grown d o (on_first (local_node t d) (s.nodes d.0) u ms))
  take-falls d u [] was some = absurd (cc some)
  take-falls d u (m ∷ ms) was some =
      take-rests t s o d u m ms was (here.learnt d.0) rest.carried.follows
      (calls_may_pair t s o here rest.carried.given)
      (backs_here t s here) rest.short w within

  desk-falls : (n : NodeId) (items : List DeskItem) → s.desks n.0 ≡ items → has_first items ≡ true →
      (left : ℕ) × WorkIsWithin (grown n o (on_first_item (local_node t n) (s.nodes n.0) items))
      (commit (without_item s n.0) n.0 (on_first_item (local_node t n) (s.nodes n.0) items)) left × (1 + left ≤ w) ×
      AreShort (grown n o (on_first_item (local_node t n) (s.nodes n.0) items))
  desk-falls n [] was some = absurd (cc some)
  desk-falls n (i ∷ items) was some =
      let a : Answer = on_item (local_node t n) (s.nodes n.0) i in
      let h = item-expands t s n o rest.carried.follows rest.short here (few n) i (here.desk n.0 i items was) in
      let after = item-dropped (grown n o a) (commit s n.0 a) n.0 i items was (w + h.more) (h.expands.grow w within) in
      let less = h.less in
      let is = after.2 in
      (after.0, after.1, omega arith, h.expands.short rest.short)

  tick-expands : (n : NodeId) → Expands s n o (MOST_LEGS * MOST_LINKS_OF_ROUTE) (on_tick (local_node t n) (s.nodes n.0))
  tick-expands n =
      let calls = (s.nodes n.0).calls in
      let legs = (s.nodes n.0).legs in
      let fits = all-calls_found (λ c. BackFits s n c.state (leg_of c.back legs)) calls (here.rise n.0)
      (here.backs n) in
      expands-known s n o (MOST_LEGS * MOST_LINKS_OF_ROUTE) (on_tick (local_node t n) (s.nodes n.0))
      (all_ticked_stays t n o t.wait legs calls s rest.carried.follows fits (here.apart n.0)).known
      (tick-grows t n o rest.short t.wait legs s calls rest.carried.follows fits (here.apart n.0) (few n))

  post-within : (c : Command) → WorkIsWithin o (posted t s c) (w + adds t (event.Post c))
  post-within (Setup k from to protected both via backup) =
      item-more o s from.0 (Order (Setup k from to protected both via backup)) w within
  post-within (Release k from) = item-more o s from.0 (Order (Release k from)) w within
  post-within (Protect k from) = item-more o s from.0 (Order (Protect k from)) w within
  post-within (Retry k from) = item-more o s from.0 (Order (Retry k from)) w within
  post-within (Revert k from) = item-more o s from.0 (Order (Revert k from)) w within
  post-within (Fail g) = failed-more o t s (with_group g s.failed) w within
  post-within (Repair g) = failed-more o t s (without_group g s.failed) w within

  pub falls : (e : MeshEvent) → is_enabled t s e ≡ true → Falls t s o e w
  falls (event.Take d u) enabled =
      let h = take-falls d u (s.mail u.0 d.0) refl enabled in
      record { lightens = record { left = h.0; within = h.1; falls = (let less = h.2 in omega arith) }; short = h.3 }
  falls (event.Desk n) enabled =
      let h = desk-falls n (s.desks n.0) refl enabled in
      record { lightens = record { left = h.0; within = h.1; falls = (let less = h.2 in omega arith) }; short = h.3 }
  falls (event.Tick n) enabled =
      let h = tick-expands n in
      record {
        lightens = record { left = w + MOST_LEGS * MOST_LINKS_OF_ROUTE; within = h.grow w within; falls = omega arith };
        short = h.short rest.short;
      }
  falls (event.Learn n k) enabled =
      let a = on_link (local_node t n) (s.nodes n.0) (find_link t k) in
      let grow = grows-quiet o s n a 0 (link_quiet (local_node t n) (s.nodes n.0) (find_link t k)) in
      record {
        lightens = record {
          left = w + 0;
          within = subst (λ (x : FirstRoutes). WorkIsWithin x (commit s n.0 a) (w + 0)) (none-sent o) (grow w within);
          falls = omega arith;
        };
        short = subst AreShort (none-sent o) rest.short;
      }
  falls (event.Post c) enabled = record {
    lightens = record {
      left = w + adds t (event.Post c);
      within = subst (λ (x : FirstRoutes). WorkIsWithin x (posted t s c) (w + adds t (event.Post c))) (none-sent o)
          (post-within c);
      falls = omega arith;
    };
    short = subst AreShort (none-sent o) rest.short;
  }

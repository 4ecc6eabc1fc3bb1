-- A world counts the events of each node.
use Rattle.std.proofs.{Common.{◌≡◌, ◌≤◌, ◌<◌, ◌+◌, ℕ, Bool, true, false, cond, nat_eq, List, [], ◌∷◌, refl, sym, ap, ◌∙◌, subst, arith}, lemmas.List.Sums.sum_by-cons}
use Rattle.std.specs.Prelude.{◌&&◌, nat_lt, Option, Some, None, is_some}
use Rattle.ason_base.specs.{declared.limits.TheConstants.MOST_EVENTS, declared.ids.NodeId.NodeId, declared.commands.Command.Command, declared.commands.Command.TheVariants.Fail, declared.commands.Event.Event, declared.commands.Event.TheVariants.{Deliver, Noise, Tick, Desk, Post}, declared.messages.Msg.Msg, Network.{Network, is_node_id}}
use Rattle.mesh_rules.specs.Events.{has_first}
use Rattle.flood.specs.{declared.frames.Content.Content, declared.frames.Content.TheVariants.{Message, Flood}}
use Rattle.world_rules.specs.{Worlds.{World, delivered, frame_at, handed_up, handled, world_start, packet_taken, with_event}, WorldRuns.{IsEnabled, IsWorldRun, world_after, event_count, is_world_channel, is_event_of, may_act, world_posted, world_step}, WorldLaws.EventsAreCounted}
use Rattle.ason_base.proofs.Bools.{and-left}

made_handled : (t : Network) (w : World) (d u : NodeId) (ms : List Msg) → (handled t w d u ms).made ≡ w.made
made_handled t w d u [] = refl
made_handled t w d u (m ∷ ms) = refl

made_delivered : (t : Network) (w : World) (d u : NodeId) (o : Option Content) → (delivered t w d u o).made ≡ w.made
made_delivered t w d u None = refl
made_delivered t w d u (Some (Message p)) = made_handled t (packet_taken w d u p) d u (handed_up w d u p)
made_delivered t w d u (Some (Flood m)) = refl

pub made_posted : (t : Network) (w : World) (c : Command) → (world_posted t w c).made ≡ w.made
made_posted t w (Fail g) = refl
made_posted t w c = refl

-- one more of its node
more : (w : World) (k n : ℕ) → (with_event w k).made n ≡ w.made n + cond (nat_eq k n) 1 0
more w k n = by_test (nat_eq n k) refl
  where
    by_test : (b : Bool) → nat_eq n k ≡ b → cond b (w.made n + 1) (w.made n) ≡ w.made n + cond (nat_eq k n) 1 0
    by_test true e = let is : nat_eq k n ≡ true = grind arith in rw is refl
    by_test false e = let is : nat_eq k n ≡ false = grind arith in rw is (omega arith)

made_step : (t : Network) (w : World) (e : Event) (n : ℕ) →
    (world_step t w e).made n ≡ w.made n + cond (is_event_of n e) 1 0
made_step t w (Deliver d u k) n =
    ap (λ (f : ℕ → ℕ). f n) (made_delivered t (with_event w d.0) d u (frame_at w u d k)) ∙ more w d.0 n
made_step t w (Noise d u bytes) n = more w d.0 n
made_step t w (Tick m) n = more w m.0 n
made_step t w (Desk m) n = more w m.0 n
made_step t w (Post c) n = ap (λ (f : ℕ → ℕ). f n) (made_posted t w c) ∙ omega arith

counted : (t : Network) (events : List Event) (w : World) (n : ℕ) →
    (world_after t w events).made n ≡ w.made n + event_count n events
counted t [] w n = omega arith
counted t (e ∷ es) w n =
    counted t es (world_step t w e) n ∙ ap (λ k. k + event_count n es) (made_step t w e n)
    ∙ sum (w.made n) (cond (is_event_of n e) 1 0) (event_count n es)
    ∙ ap (λ k. w.made n + k) (sym (sum_by-cons (λ x. cond (is_event_of n x) 1 0) e es))
  where
    sum : (a b c : ℕ) → (a + b) + c ≡ a + (b + c)
    sum a b c = omega arith

-- an enabled event is of a node that made fewer than 50,000
below_at : (t : Network) (w : World) (k : NodeId) (n : ℕ) → may_act t w k ≡ true → nat_eq k.0 n ≡ true →
    w.made n < MOST_EVENTS
below_at t w k n on same =
    let is : k.0 ≡ n = grind arith in subst (λ m. w.made m < MOST_EVENTS) is
    (less (is_node_id t.nodes k) (w.made k.0) on)
  where
    less : (b : Bool) (a : ℕ) → (b && nat_lt a MOST_EVENTS) ≡ true → a < MOST_EVENTS
    less b a on = grind arith

below : (t : Network) (w : World) (e : Event) (n : ℕ) → IsEnabled t w e → is_event_of n e ≡ true →
    w.made n < MOST_EVENTS
below t w (Deliver d u k) n on of =
    below_at t w d n
    (and-left (may_act t w d) (is_world_channel t u d)
    (and-left (may_act t w d && is_world_channel t u d) (is_some (frame_at w u d k)) on)) of
below t w (Noise d u bytes) n on of = below_at t w d n (and-left (may_act t w d) (is_world_channel t u d) on.0) of
below t w (Tick m) n on of = below_at t w m n on of
below t w (Desk m) n on of = below_at t w m n (and-left (may_act t w m) (has_first (w.desks m.0)) on) of
below t w (Post c) n on of = absurd (cc (of))

within : (t : Network) (events : List Event) (w : World) (n : ℕ) → IsWorldRun t w events → w.made n ≤ MOST_EVENTS →
    (world_after t w events).made n ≤ MOST_EVENTS
within t [] w n run most = most
within t (e ∷ es) w n run most = within t es (world_step t w e) n run.1 (by_test (is_event_of n e) refl)
  where
    by_test : (b : Bool) → is_event_of n e ≡ b → (world_step t w e).made n ≤ MOST_EVENTS
    by_test true of =
        let less : w.made n < MOST_EVENTS = below t w e n run.0 of in
        let one : (world_step t w e).made n ≡ w.made n + 1 = made_step t w e n ∙ ap (λ b. w.made n + cond b 1 0) of in
        omega arith
    by_test false of =
        let none : (world_step t w e).made n ≡ w.made n + 0 = made_step t w e n ∙ ap (λ b. w.made n + cond b 1 0) of in
        omega arith

pub events-are-counted : EventsAreCounted
events-are-counted t events run n =
    let all : (world_after t (world_start t) events).made n ≡ 0 + event_count n events =
    counted t events (world_start t) n in
    let most : (world_after t (world_start t) events).made n ≤ MOST_EVENTS =
    within t events (world_start t) n run (omega arith) in
    record { made = omega arith; most = omega arith }

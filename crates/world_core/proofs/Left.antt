-- What an event leaves as it was, at other nodes and of posts.
use Rattle.std.proofs.Common.{◌≡◌, ◌+◌, ℕ, Bool, true, false, cond, nat_eq, drop, refl, sym, ap, ◌∙◌, subst, arith, eqb-true}
use Rattle.ason_base.specs.{declared.ids.NodeId.NodeId, declared.commands.Event.Event, Network.{Network, is_node_id}}
use Rattle.ason_base.specs.declared.commands.Event.TheVariants as world
use Rattle.ason_base.proofs.Numbers.{number-flip}
use Rattle.hop_reliable.specs.Schedules.{HopEnd}
use Rattle.flood.specs.State.{pending_count}
use Rattle.world_core.specs.Replays.{IsNowhere}
use Rattle.world_rules.specs.{WorldRuns.{is_event_of, world_step}, Standing.IsUntouched, Worlds.{World, frame_at, with_event}}
use Rattle.world_rules.proofs.{Delivered.kept-delivered, Untouched.others-are-untouched}

pub record IsLeft (w new : World) (m : ℕ) : Type 0 where
  pub desk : new.desks m ≡ w.desks m
  pub made : new.made m ≡ w.made m

uncounted : (w : World) (n m : ℕ) → nat_eq m n ≡ false → (with_event w n).made m ≡ w.made m
uncounted w n m other = ap (λ b. cond b (w.made m + 1) (w.made m)) other

pub differs : (a b m : ℕ) → nat_eq a b ≡ true → nat_eq m b ≡ false → nat_eq m a ≡ false
differs a b m h k = grind arith

pub others-left : (t : Network) (w : World) (e : Event) (n m : ℕ) → is_event_of n e ≡ true → nat_eq m n ≡ false →
    IsLeft w (world_step t w e) m
others-left t w (world.Deliver d u k) n m of other =
    let kept = kept-delivered t (with_event w d.0) d u (frame_at w u d k) m in
    record { desk = kept.desk; made = kept.made ∙ uncounted w d.0 m (differs d.0 n m of other) }
others-left t w (world.Noise d u bytes) n m of other =
    record { desk = refl; made = uncounted w d.0 m (differs d.0 n m of other) }
others-left t w (world.Tick d) n m of other =
    record { desk = refl; made = uncounted w d.0 m (differs d.0 n m of other) }
others-left t w (world.Desk d) n m of other = record {
  desk = ap (λ b. cond b (drop 1 (w.desks m)) (w.desks m)) (differs d.0 n m of other);
  made = uncounted w d.0 m (differs d.0 n m of other);
}
others-left t w (world.Post c) n m of other = absurd (cc (of))

-- what was posted and what has failed stay where a node does something
pub record PostsStay (w new : World) : Type 0 where
  pub posted : new.posted ≡ w.posted
  pub failed : new.failed ≡ w.failed

pub posts-left : (t : Network) (w : World) (e : Event) (n : ℕ) → is_event_of n e ≡ true → PostsStay w (world_step t w e)
posts-left t w (world.Deliver d u k) n of =
    let kept = kept-delivered t (with_event w d.0) d u (frame_at w u d k) n in
    record { posted = kept.posted; failed = kept.failed }
posts-left t w (world.Noise d u bytes) n of = record { posted = refl; failed = refl }
posts-left t w (world.Tick d) n of = record { posted = refl; failed = refl }
posts-left t w (world.Desk d) n of = record { posted = refl; failed = refl }
posts-left t w (world.Post c) n of = absurd (cc (of))

pub not_of : (e : Event) (n m : ℕ) → is_event_of n e ≡ true → nat_eq m n ≡ false → is_event_of m e ≡ false
not_of (world.Deliver d u k) n m of other = number-flip m d.0 false (differs d.0 n m of other)
not_of (world.Noise d u bytes) n m of other = number-flip m d.0 false (differs d.0 n m of other)
not_of (world.Tick d) n m of other = number-flip m d.0 false (differs d.0 n m of other)
not_of (world.Desk d) n m of other = number-flip m d.0 false (differs d.0 n m of other)
not_of (world.Post c) n m of other = absurd (cc (of))

-- where nothing waited at a number that is no node's, nothing does
pub still-nowhere : (t : Network) (w : World) (e : Event) (n m : NodeId) → is_event_of n.0 e ≡ true →
    is_node_id t.nodes n ≡ true → is_node_id t.nodes m ≡ false → IsNowhere w m.0 → IsNowhere (world_step t w e) m.0
still-nowhere t w e n m of there none is =
    let other : nat_eq m.0 n.0 ≡ false = not_same (nat_eq m.0 n.0) refl in
    let left : IsLeft w (world_step t w e) m.0 = others-left t w e n.0 m.0 of other in
    let same : IsUntouched w (world_step t w e) m.0 = others-are-untouched t w e m.0 (not_of e n.0 m.0 of other) in
    record {
      desk = left.desk ∙ is.desk;
      hops = λ d. ap (λ (x : HopEnd). x.hop.unacked) (same.ends d) ∙ is.hops d;
      flood = ap pending_count same.floods ∙ is.flood;
    }
  where
    not_same : (b : Bool) → nat_eq m.0 n.0 ≡ b → b ≡ false
    not_same true h =
        let is : m.0 ≡ n.0 = eqb-true m.0 n.0 h in
        absurd (cc (none, subst (λ k. is_node_id t.nodes (record { 0 = k }) ≡ true) (sym is) there))
    not_same false h = refl

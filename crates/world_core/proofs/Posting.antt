-- What a replay keeps stands for the world after a post.
use Rattle.std.proofs.Common.{◌≡◌, ℕ, Bool, true, false, cond, nat_eq, arith, List, [], ◌∷◌, ◌++◌, map, set, refl, sym, ap, ◌∙◌, subst, append-nil, eqb-true}
use Rattle.std.specs.{Prelude.{◌&&◌, Option, Some, None, is_some, not, position, slice_get}, List.AllByRecursion}
use Rattle.ason_base.specs.{declared.ids.NodeId.NodeId, declared.commands.Command.Command, declared.commands.Command.TheVariants.{Setup, Release, Protect, Retry, Revert, Fail, Repair}, declared.commands.DeskItem.DeskItem, declared.commands.DeskItem.TheVariants.Order, declared.commands.Event.TheVariants.Post, declared.commands.Group.Group, Network.{IsTopology, Network, is_distinct, is_node_id}}
use Rattle.ason_base.proofs.{Bools.and-left, Places.all-at, Finding.found-nowhere, Numbers.self-number}
use Rattle.flood.specs.State.{pending_count}
use Rattle.hop_reliable.specs.Schedules.{HopEnd}
use Rattle.mesh_rules.specs.{Commands.{has_backup_way, has_way, is_again, is_searchable, is_valid}, Failures.{all_news, failed_after}}
use Rattle.mesh_rules.proofs.LinkNews.{no-news}
use Rattle.world_core.specs.{Replays.{HasStepped, IsDisabled, IsForNobody, HaveHeard, IsGiven, IsNowhere, IsPut, StateStandsFor, WorldState, ingress_of, setup_numbers}, Seats.{SeatStands, SeatState, is_seat_at, told_seat, seat_with_item}}
use Rattle.world_rules.specs.{WorldRuns.world_posted, Worlds.World}
use Rattle.world_rules.proofs.{Counted.made_posted, Untouched.posted_elsewhere}
use Rattle.world_core.proofs.{Finding.{IsFirst, is-first}, Places.{all-set, nodes-set, numbers-set, seat-there}, Seating.{put-stands, still-stands}}

-- What a post makes of the world

abbrev desk_after : Network → World → Command → Option NodeId → ℕ → List DeskItem
desk_after t w c None m = w.desks m ++ all_news t w.failed (failed_after c w.failed) m
desk_after t w c (Some n) m = cond (nat_eq m n.0) (w.desks m ++ Order c ∷ []) (w.desks m)

desks-posted : (t : Network) (w : World) (c : Command) (m : ℕ) →
    (world_posted t w c).desks m ≡ desk_after t w c (ingress_of c) m
desks-posted t w (Fail g) m = refl
desks-posted t w c m = refl

pub failed-posted : (t : Network) (w : World) (c : Command) → (world_posted t w c).failed ≡ failed_after c w.failed
failed-posted t w (Fail g) = refl
failed-posted t w c = refl

numbers-posted : (t : Network) (w : World) (c : Command) → (world_posted t w c).posted ≡ w.posted ++ setup_numbers c
numbers-posted t w (Setup n from to protected both via backup) = refl
numbers-posted t w c = sym (append-nil w.posted)

-- a valid command's ingress is a node
ingress-is-node : (t : Network) (c : Command) (n : NodeId) → is_valid t c ≡ true → ingress_of c ≡ Some n →
    is_node_id t.nodes n ≡ true
ingress-is-node t (Setup k from to protected both via backup) n valid e =
    let same : from ≡ n = cc (e) in
    subst (λ m. is_node_id t.nodes m ≡ true) same
    (first (is_node_id t.nodes from) (is_node_id t.nodes to) (not (nat_eq from.0 to.0))
    (has_way t from to via) (has_backup_way t from to protected via backup) valid)
  where
    first : (a b c d f : Bool) → (a && b && c && d && f) ≡ true → a ≡ true
    first true b c d f h = refl
    first false b c d f h = absurd (cc (h))
ingress-is-node t (Release k from) n valid e =
    let same : from ≡ n = cc (e) in subst (λ m. is_node_id t.nodes m ≡ true) same valid
ingress-is-node t (Protect k from) n valid e =
    let same : from ≡ n = cc (e) in
    subst (λ m. is_node_id t.nodes m ≡ true) same (and-left (is_node_id t.nodes from) (is_searchable t) valid)
ingress-is-node t (Retry k from) n valid e =
    let same : from ≡ n = cc (e) in subst (λ m. is_node_id t.nodes m ≡ true) same valid
ingress-is-node t (Revert k from) n valid e =
    let same : from ≡ n = cc (e) in subst (λ m. is_node_id t.nodes m ≡ true) same valid
ingress-is-node t (Fail g) n valid e = absurd (cc (e))
ingress-is-node t (Repair g) n valid e = absurd (cc (e))

-- What is kept

each-told : (P Q : SeatState → Type 0) (f : SeatState → SeatState) → ((x : SeatState) → P x → Q (f x)) →
    (seats : List SeatState) → AllByRecursion P seats → AllByRecursion Q (map f seats)
each-told P Q f does [] all = tt
each-told P Q f does (x ∷ xs) all = (does x all.0, each-told P Q f does xs all.1)

-- a seat whose desk the post leaves
seat_left : (t : Network) (w : World) (c : Command) (s : SeatState) →
    desk_after t w c (ingress_of c) s.node.0 ≡ w.desks s.node.0 → SeatStands t w s → SeatStands t (world_posted t w c) s
seat_left t w c s same stands =
    still-stands t w (world_posted t w c) s (posted_elsewhere t w c s.node.0) (desks-posted t w c s.node.0 ∙ same)
    (ap (λ (f : ℕ → ℕ). f s.node.0) (made_posted t w c)) stands

-- one whose node is told what the command changes
seat_told : (t : Network) (w : World) (c : Command) (s : SeatState) → ingress_of c ≡ None → SeatStands t w s →
    SeatStands t (world_posted t w c) (told_seat t w.failed (failed_after c w.failed) s)
seat_told t w c s none stands =
    put-stands t w (world_posted t w c) s (all_news t w.failed (failed_after c w.failed) s.node.0)
    (posted_elsewhere t w c s.node.0)
    (desks-posted t w c s.node.0 ∙ ap (λ o. desk_after t w c o s.node.0) none)
    (ap (λ (f : ℕ → ℕ). f s.node.0) (made_posted t w c)) stands

nowhere_left : (t : Network) (w : World) (c : Command) (m : ℕ) →
    desk_after t w c (ingress_of c) m ≡ w.desks m → IsNowhere w m → IsNowhere (world_posted t w c) m
nowhere_left t w c m same is = record {
  desk = desks-posted t w c m ∙ same ∙ is.desk;
  hops = λ d. ap (λ (x : HopEnd). x.hop.unacked) ((posted_elsewhere t w c m).ends d) ∙ is.hops d;
  flood = ap pending_count (posted_elsewhere t w c m).floods ∙ is.flood;
}

-- where no node is, nothing is told
nothing_told : (t : Network) (w : World) (c : Command) (m : NodeId) → IsTopology t → is_valid t c ≡ true →
    is_node_id t.nodes m ≡ false → desk_after t w c (ingress_of c) m.0 ≡ w.desks m.0
nothing_told t w c m topology valid nowhere = go (ingress_of c) refl
  where
    go : (o : Option NodeId) → ingress_of c ≡ o → desk_after t w c o m.0 ≡ w.desks m.0
    go None e =
        ap (λ items. w.desks m.0 ++ items) (no-news t topology w.failed (failed_after c w.failed) m nowhere)
        ∙ append-nil (w.desks m.0)
    go (Some n) e =
        ap (λ b. cond b (w.desks m.0 ++ Order c ∷ []) (w.desks m.0)) (other n e (nat_eq m.0 n.0) refl)
      where
        other : (n : NodeId) → ingress_of c ≡ Some n → (b : Bool) → nat_eq m.0 n.0 ≡ b → b ≡ false
        other n e true h =
            let is : m.0 ≡ n.0 = eqb-true m.0 n.0 h in
            absurd (cc (
              nowhere,
              subst (λ x. is_node_id t.nodes (record { 0 = x }) ≡ true) (sym is) (ingress-is-node t c n valid e),
            ))
        other n e false h = refl

-- a post leaves it so that nothing waits where no node is
pub nowhere-posted : (t : Network) (w : World) (c : Command) (m : NodeId) → IsTopology t → is_valid t c ≡ true →
    is_node_id t.nodes m ≡ false → IsNowhere w m.0 → IsNowhere (world_posted t w c) m.0
nowhere-posted t w c m topology valid none is =
    nowhere_left t w c m.0 (nothing_told t w c m topology valid none) is

nodes-told : (t : Network) (before after : List Group) (seats : List SeatState) →
    map (λ (x : SeatState). x.node) (map (told_seat t before after) seats) ≡ map (λ (x : SeatState). x.node) seats
nodes-told t before after [] = refl
nodes-told t before after (s ∷ seats) = ap (λ ns. s.node ∷ ns) (nodes-told t before after seats)

numbers-told : (t : Network) (before after : List Group) (seats : List SeatState) →
    map (λ (x : SeatState). x.node.0) (map (told_seat t before after) seats) ≡ map (λ (x : SeatState). x.node.0) seats
numbers-told t before after [] = refl
numbers-told t before after (s ∷ seats) = ap (λ ns. s.node.0 ∷ ns) (numbers-told t before after seats)

given-stands : (t : Network) (k after : WorldState) (w : World) (c : Command) → IsTopology t → is_valid t c ≡ true →
    StateStandsFor t k w → IsGiven t k c after → StateStandsFor t after (world_posted t w c)
given-stands t k after w c topology valid stands given = go (ingress_of c) refl given.seats
  where
    numbers : after.posted ≡ (world_posted t w c).posted
    numbers = given.posted ∙ ap (λ ns. ns ++ setup_numbers c) stands.posted ∙ sym (numbers-posted t w c)

    groups : after.failed ≡ (world_posted t w c).failed
    groups = given.failed ∙ ap (failed_after c) stands.failed ∙ sym (failed-posted t w c)

    go : (o : Option NodeId) → ingress_of c ≡ o → HaveHeard t k c o after.seats →
        StateStandsFor t after (world_posted t w c)
    go None e heard = record {
      nodes = ap (map (λ (x : SeatState). x.node)) same
          ∙ nodes-told t w.failed (failed_after c w.failed) k.seats ∙ stands.nodes;
      apart = ap (λ (xs : List SeatState). is_distinct (map (λ (x : SeatState). x.node.0) xs)) same
          ∙ ap is_distinct (numbers-told t w.failed (failed_after c w.failed) k.seats) ∙ stands.apart;
      seats = subst (AllByRecursion (SeatStands t (world_posted t w c))) (sym same)
          (each-told (SeatStands t w) (SeatStands t (world_posted t w c))
          (told_seat t w.failed (failed_after c w.failed))
          (λ s sits. seat_told t w c s e sits) k.seats stands.seats);
      nowhere = λ m none. nowhere-posted t w c m topology valid none (stands.nowhere m none);
      posted = numbers;
      failed = groups;
    }
      where
        same : after.seats ≡ map (told_seat t w.failed (failed_after c w.failed)) k.seats
        same = heard ∙ ap (λ groups. map (told_seat t groups (failed_after c groups)) k.seats) stands.failed
    go (Some n) e put = record {
      nodes = ap (map (λ (x : SeatState). x.node)) put.seats
          ∙ nodes-set k.seats put.place put.seat new put.there refl ∙ stands.nodes;
      apart = ap (λ (xs : List SeatState). is_distinct (map (λ (x : SeatState). x.node.0) xs)) put.seats
          ∙ ap is_distinct (numbers-set k.seats put.place put.seat new put.there refl) ∙ stands.apart;
      seats = subst (AllByRecursion (SeatStands t (world_posted t w c))) (sym put.seats)
          (all-set (SeatStands t w) (SeatStands t (world_posted t w c)) k.seats put.place put.seat new put.there
          stands.apart
          stands.seats other here);
      nowhere = λ m none. nowhere-posted t w c m topology valid none (stands.nowhere m none);
      posted = numbers;
      failed = groups;
    }
      where
        new : SeatState
        new = seat_with_item (Order c) put.seat

        first : IsFirst (is_seat_at n.0) k.seats put.place
        first = is-first (is_seat_at n.0) k.seats put.place put.found

        node : put.seat.node.0 ≡ n.0
        node =
            let same : first.item ≡ put.seat = cc (first.there, put.there) in
            eqb-true put.seat.node.0 n.0 (ap (is_seat_at n.0) (sym same) ∙ first.passes)

        elsewhere : (m : ℕ) → nat_eq m n.0 ≡ false → desk_after t w c (ingress_of c) m ≡ w.desks m
        elsewhere m other =
            ap (λ o. desk_after t w c o m) e ∙ ap (λ b. cond b (w.desks m ++ Order c ∷ []) (w.desks m)) other

        other : (x : SeatState) → nat_eq x.node.0 put.seat.node.0 ≡ false → SeatStands t w x →
            SeatStands t (world_posted t w c) x
        other x apart sits = seat_left t w c x (elsewhere x.node.0 (ap (nat_eq x.node.0) (sym node) ∙ apart)) sits

        here : SeatStands t (world_posted t w c) new
        here =
            put-stands t w (world_posted t w c) put.seat (Order c ∷ []) (posted_elsewhere t w c put.seat.node.0)
            (desks-posted t w c put.seat.node.0 ∙ ap (λ o. desk_after t w c o put.seat.node.0) e
            ∙ ap (λ x. cond (nat_eq put.seat.node.0 x) (w.desks put.seat.node.0 ++ Order c ∷ [])
            (w.desks put.seat.node.0)) (sym node)
            ∙ ap (λ b. cond b (w.desks put.seat.node.0 ++ Order c ∷ []) (w.desks put.seat.node.0))
            (self-number put.seat.node.0))
            (ap (λ (f : ℕ → ℕ). f put.seat.node.0) (made_posted t w c))
            (all-at (SeatStands t w) k.seats put.place put.seat stands.seats put.there)

pub posted-steps : (t : Network) (k after : WorldState) (c : Command) → IsTopology t → is_valid t c ≡ true →
    is_again k.posted c ≡ false → IsGiven t k c after → HasStepped t k (Post c) after
posted-steps t k after c topology valid fresh given w stands = (
  both (is_valid t c) (is_again w.posted c) valid (ap (λ ns. is_again ns c) (sym stands.posted) ∙ fresh),
  given-stands t k after w c topology valid stands given,
)
  where
    both : (a b : Bool) → a ≡ true → b ≡ false → (a && not b) ≡ true
    both a b p q = grind arith

-- a valid command is for a node
pub not-given : (t : Network) (k : WorldState) (c : Command) → is_valid t c ≡ true → IsForNobody k.seats c →
    IsDisabled t k (Post c)
not-given t k c valid is w stands on =
    absurd (cc (
      ap is_some (found-nowhere (is_seat_at is.node.0) k.seats is.nowhere),
      seat-there k.seats t.nodes is.node stands.nodes,
      ingress-is-node t c is.node valid is.ingress,
    ))

-- The place of the ingress

pub is-put : (seats after : List SeatState) (n : NodeId) (item : DeskItem) (i : ℕ) →
    position (is_seat_at n.0) seats ≡ Some i →
    ((s : SeatState) → slice_get seats i ≡ Some s → after ≡ set seats i (seat_with_item item s)) →
    IsPut seats n item after
is-put seats after n item i at puts =
    let first = is-first (is_seat_at n.0) seats i at in
    record { place = i; seat = first.item; found = at; there = first.there; seats = puts first.item first.there }

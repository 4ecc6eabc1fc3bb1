-- A station that is at its limit has a full log.
use Rattle.std.proofs.{Common.{◌≡◌, ◌≤◌, ◌+◌, ◌*◌, ℕ, suc, Bool, true, false, cond, not, nat_le, List, [], ◌∷◌, filter, le_trans, length, mul-le-mul_right, refl, suc-mul, sym, ap, ◌∙◌, subst, arith, inl, inr}, lemmas.List.{length-append, length-map}, lemmas.List.Elements.{Contains-append_cases, Contains-append_left}}
use Rattle.std.specs.{Prelude.{◌&&◌, ◌^◌}, List.{Contains, flat_map}}
use Rattle.ason_base.specs.{declared.limits.TheConstants.{MOST_EVENTS, MOST_NODES}, declared.ids.NodeId.NodeId, declared.commands.Disturb.Disturb, declared.network.NodeSpec.NodeSpec, Network.{IsTopology, Network, is_node_id}}
use Rattle.ason_base.proofs.Members.{contains-head, contains-tail, there-kept, contains-none}
use Rattle.world_merge.specs.{Deeds.{Deed, Posted}, Logs.{is_posted, line_of, log_of, posts_of}}
use Rattle.station_rings.proofs.Deeds.{logs-are-few}
use Rattle.round_rules.specs.{Doings.deeds_in, OneWorker.ids_of, Records.{Record, deeds_at, posts_in}, PartLimits.IsAtLimit, States.StationState, Fleets.{AreStanding, HasGrown, IsStationAt, Wires, AllBegun}, Gaps.{DeedsAreFew, HasPredecessor, IsStampIn, LimitsAreLogs, PostsFollow, PostsStillFollow, all_deeds}}
use Rattle.round_rules.proofs.{Desks.deeds-more, Choosing.{Beside, zip-there}, Clocks.{came-known, clock-few, few-known, zip-each}, Nodes.{among-ids, there-among}, Wired.at-node}

-- Posts

stays_in : (t : Network) (before after : Record) → ((m : ℕ) → HasGrown before after m) → (s : ℕ) →
    IsStampIn t before s → IsStampIn t after s
stays_in t before after grown s is = record {
  node = is.node;
  known = is.known;
  deed = is.deed;
  there =
      subst (λ ds. Contains ds is.deed) (sym (ap deeds_in g.all ∙ deeds-more (before.doings is.node.0) g.added))
      (Contains-append_left (deeds_at before is.node.0) (deeds_in g.added) is.deed is.there);
  stamp = is.stamp;
}
  where
    g : HasGrown before after is.node.0
    g = grown is.node.0

follows_still : (t : Network) (before after : Record) → ((m : ℕ) → HasGrown before after m) → (s : ℕ) →
    HasPredecessor t before s → HasPredecessor t after s
follows_still t before after grown s (inl one) = inl one
follows_still t before after grown s (inr p) = inr (p.0, stays_in t before after grown p.0 p.1, p.2)

-- What was posted still follows after turns, in which nothing is posted.
pub posts-still-follow : PostsStillFollow
posts-still-follow t before after grown posts n s c known there =
    elim (Contains-append_cases (deeds_at before n.0) (deeds_in g.added) (Posted s c)
    (subst (λ ds. Contains ds (Posted s c)) (ap deeds_in g.all ∙ deeds-more (before.doings n.0) g.added) there)) [
      | inl was ↦ follows_still t before after grown s (posts n s c known was)
      | inr new ↦ absurd (contains-none (Posted s c) (subst (λ ds. Contains ds (Posted s c)) g.no_post
          (there-kept is_posted (deeds_in g.added) (Posted s c) new refl)))
    ]
  where
    g : HasGrown before after n.0
    g = grown n.0

-- How many deeds there are

parted : (p : Deed → Bool) (ds : List Deed) →
    length ds ≡ length (filter (λ d. not (p d)) ds) + length (filter p ds)
parted p [] = omega arith
parted p (d ∷ ds) = go (p d) (parted p ds)
  where
    go : (b : Bool) → length ds ≡ length (filter (λ e. not (p e)) ds) + length (filter p ds) →
        suc (length ds) ≡
        length (cond (not b) (d ∷ filter (λ e. not (p e)) ds) (filter (λ e. not (p e)) ds)) +
        length (cond b (d ∷ filter p ds) (filter p ds))
    go true e = omega (arith, e)
    go false e = omega (arith, e)

-- a node's log and the posts are all that it did
deeds_count : (n : NodeId) (ds : List Deed) → length ds ≡ length (log_of n ds) + length (posts_of n ds)
deeds_count n ds =
    parted is_posted ds
    ∙ (λ i. sym (length-map (filter (λ d. not (is_posted d)) ds) (line_of n)) i +
    sym (length-map (filter is_posted ds) (line_of n)) i)

module _ (t : Network) (lines : List Disturb) (r : Record) (w : Wires) (xs : List StationState)
    (all : AreStanding t lines r w xs) where
  log_few : (n : NodeId) (s : StationState) → IsStationAt t lines r w n s → length s.log ≤ MOST_EVENTS
  log_few n s is =
      subst (λ ls. length ls ≤ MOST_EVENTS) (sym is.station.stands.sound.log)
      (logs-are-few t n (deeds_at r n.0) is.station.stands.sound.doable)

  node_few : (n : NodeId) → Contains (ids_of t) n → length (deeds_at r n.0) ≤ MOST_EVENTS + length (posts_in r)
  node_few n there = omega (arith, few, count, posts)
    where
      known : is_node_id t.nodes n ≡ true
      known = sym (among-ids t n) ∙ there-among (ids_of t) n there

      b : Beside (IsStationAt t lines r w) xs n
      b = at-node t lines r w xs all n known

      few : length (log_of n (deeds_at r n.0)) ≤ MOST_EVENTS
      few = logs-are-few t n (deeds_at r n.0) b.is.station.stands.sound.doable

      count : length (deeds_at r n.0) ≡ length (log_of n (deeds_at r n.0)) + length (posts_of n (deeds_at r n.0))
      count = deeds_count n (deeds_at r n.0)

      posts : length (posts_of n (deeds_at r n.0)) ≡ length (posts_in r)
      posts = ap length (all.posts n.0)

  all_few : (ns : List NodeId) → ((n : NodeId) → Contains ns n → Contains (ids_of t) n) →
      length (flat_map (λ (n : NodeId). deeds_at r n.0) ns) ≤ length ns * (MOST_EVENTS + length (posts_in r))
  all_few [] inside = omega arith
  all_few (n ∷ ns) inside =
      let one = node_few n (inside n (contains-head n ns)) in
      let rest = all_few ns (λ m there. inside m (contains-tail n m ns there)) in
      let parts = length-append (deeds_at r n.0) (flat_map (λ (m : NodeId). deeds_at r m.0) ns) in
      subst (λ k. k ≤ suc (length ns) * (MOST_EVENTS + length (posts_in r))) (sym parts)
      (product (length ns) (MOST_EVENTS + length (posts_in r)) (length (deeds_at r n.0))
      (length (flat_map (λ (m : NodeId). deeds_at r m.0) ns)) one rest)
    where
      sums : (a b c p q : ℕ) → a ≤ c → b ≤ p → q ≡ p + c → a + b ≤ q
      sums a b c p q f g e = omega (arith, f, g, e)

      product : (k c a b : ℕ) → a ≤ c → b ≤ k * c → a + b ≤ suc k * c
      product k c a b f g = sums a b c (k * c) (suc k * c) f g (suc-mul k c)

nodes_few : (t : Network) → IsTopology t → length (ids_of t) ≤ MOST_NODES
nodes_few t valid = subst (λ k. k ≤ MOST_NODES) (sym (length-map t.nodes (λ (m : NodeSpec). m.id)))
    (few _ _ valid.count)
  where
    few : (k : ℕ) (b : Bool) → (nat_le 1 k && (nat_le k MOST_NODES && b)) ≡ true → k ≤ MOST_NODES
    few k b h = grind (arith, h)

-- All deeds are no more than 64 logs and the posts at each node.
pub deeds-are-few : DeedsAreFew
deeds-are-few t lines r w xs all =
    more (length (ids_of t)) (MOST_EVENTS + length (posts_in r)) (length (all_deeds t r)) (nodes_few t all.valid)
    (all_few t lines r w xs all (ids_of t) (λ n there. there))
  where
    more : (k c a : ℕ) → k ≤ MOST_NODES → a ≤ k * c → a ≤ MOST_NODES * c
    more k c a f g = le_trans g (mul-le-mul_right c f)

-- The limit

module _ (t : Network) (lines : List Disturb) (r : Record) (w : Wires) (xs : List StationState)
    (all : AreStanding t lines r w xs) (begun : AllBegun t w) (posts : PostsFollow t r)
    (few : length (posts_in r) ≤ 2 ^ 32) where
  early : (s : ℕ) → s ≤ length (all_deeds t r) → 2 ^ 64 ≤ s + 1 → ⊥
  early s le late = let most = deeds-are-few t lines r w xs all in omega (arith, le, late, most, few)

  full : (n : NodeId) (s : StationState) → Contains (ids_of t) n → IsStationAt t lines r w n s → IsAtLimit s →
      length s.log ≡ MOST_EVENTS
  full n s there is (inl lines_full) =
      let most = log_few t lines r w xs all n s is in omega (arith, lines_full, most)
  full n s there is (inr (inl clock)) =
      absurd (early s.clock (clock-few t lines r w xs all begun posts n s there is) clock)
  full n s there is (inr (inr last)) =
      absurd (early last.parcel.stamp (few-known t lines r w xs all begun posts last.parcel.stamp
      (came-known t lines r w xs all begun posts n s is last.came.link last.came.there last.parcel last.came.came))
      last.last)

-- With few posts a station that is at its limit has a full log.
pub limits-are-logs : LimitsAreLogs
limits-are-logs t lines r w xs all begun posts few =
    zip-each (λ (n : NodeId) (s : StationState). IsAtLimit s → length s.log ≡ MOST_EVENTS)
    (λ (s : StationState). IsAtLimit s → length s.log ≡ MOST_EVENTS) (λ n s h. h) (ids_of t) xs
    (zip-there (IsStationAt t lines r w) (λ (n : NodeId) (s : StationState). IsAtLimit s → length s.log ≡ MOST_EVENTS)
    (ids_of t) (full t lines r w xs all begun posts few) (ids_of t) xs (λ n there. there) all.each)

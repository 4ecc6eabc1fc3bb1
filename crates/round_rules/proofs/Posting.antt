-- Stations that took a post stand for the record with it.
use Rattle.std.proofs.{Common.{◌≡◌, ◌≤◌, ◌<◌, ◌+◌, ℕ, Bool, true, false, nat_le, List, [], ◌∷◌, ◌++◌, filter, length, map, refl, sym, ap, ◌∙◌, subst, arith, append-nil, inl, inr}, lemmas.List.{length-map, map-append}, lemmas.List.Elements.{Contains-append_cases, Contains-append_left, filter-append}}
use Rattle.std.specs.{Prelude.{◌⊎◌, ◌&&◌, None}, List.{AllByRecursion, Contains}}
use Rattle.ason_base.specs.{declared.ids.NodeId.NodeId, declared.commands.Command.Command, declared.commands.Disturb.Disturb, declared.commands.Entry.Entry, declared.commands.Event.TheVariants.Post, declared.network.NodeSpec.NodeSpec, Network.{IsTopology, Network, is_node_id}}
use Rattle.ason_base.proofs.Members.{contains-cases, contains-head, all-filter, contains-none}
use Rattle.hop_reliable.proofs.Members.{each-more}
use Rattle.world_rules.specs.{WorldRuns.{IsEnabled, is_world_channel}, Worlds.{World, world_start}}
use Rattle.world_rules.proofs.Untouched.{others-are-untouched}
use Rattle.world_merge.specs.{Deeds.{AreDoable, Deed, Posted, alone, stamp_of}, Histories.at, Logs.{RisesAbove, is_posted, line_of, posts_of}}
use Rattle.station_rings.specs.{Joins.HasPosts, Steps.IsPosted, LinkStates.view_of}
use Rattle.station_rings.proofs.Deeds.{doable-more, rises-more}
use Rattle.round_rules.specs.{Doings.Did, Functions.clock_of, Lines.says, OneWorker.ids_of, Records.{Record, deeds_at, posts_in, world_of}, Rings.{count_of, got_from}, Stands.StandsBy, States.{IsTakenFrom, StationState, holding_of}, Commands.{PostsStandFor, TakePosts, TakesPost, greatest_clock, record_posted}, Fleets.{AreStanding, IsRecordNowhere, IsRingOf, IsStationAt, Wires}, Gaps.{HasPredecessor, IsStampIn, PostsFollow}}
use Rattle.round_rules.proofs.{Desks.deeds-more, Numbers.got-append, PartStanding.posts-stand, Taking.taken-still, Assembling.alone-did, Choosing.Beside, Greatest.{clock-found, greatest-above, greatest-found}, Nodes.{among-ids, there-among}, Replacing.{ring-kept, zip-places}, SamePosts.{enabled-alone, same-deeds}, Wired.at-node}

-- there is a node
some_node : (t : Network) → IsTopology t → (n : NodeId) × Contains (ids_of t) n
some_node t valid =
    go (ids_of t) (subst (λ k. 1 ≤ k) (sym (length-map t.nodes (λ (m : NodeSpec). m.id))) (one _ _ valid.count))
  where
    one : (k : ℕ) (b : Bool) → (nat_le 1 k && b) ≡ true → 1 ≤ k
    one k b h = grind (arith, h)

    go : (ns : List NodeId) → 1 ≤ length ns → (n : NodeId) × Contains ns n
    go [] some = absurd (omega (arith, some))
    go (n ∷ ns) some = (n, contains-head n ns)

-- where there are posts alone
all_posts : (posts : List (ℕ × Command)) → filter is_posted (map (λ c. Posted c.0 c.1) posts) ≡
    map (λ c. Posted c.0 c.1) posts
all_posts [] = refl
all_posts (p ∷ posts) = ap (λ ds. Posted p.0 p.1 ∷ ds) (all_posts posts)

module _ (t : Network) (lines : List Disturb) (c : Command) (r : Record) (w : Wires) (xs : List StationState)
    (all : AreStanding t lines r w xs) (follow : PostsFollow t r) (on : IsEnabled t (world_of t r) (Post c)) where
  abbrev most : ℕ
  most = greatest_clock t r

  abbrev deed : Deed
  deed = Posted (most + 1) c

  abbrev later : Record
  later = record_posted t c r

  deeds_now : (n : ℕ) → deeds_at later n ≡ deeds_at r n ++ deed ∷ []
  deeds_now n = deeds-more (r.doings n) (Did deed ∷ [])

  known_there : (n : NodeId) → Contains (ids_of t) n → is_node_id t.nodes n ≡ true
  known_there n there = sym (among-ids t n) ∙ there-among (ids_of t) n there

  clock_below : (n : NodeId) (s : StationState) → Contains (ids_of t) n → IsStationAt t lines r w n s → s.clock ≤ most
  clock_below n s there is =
      subst (λ k. k ≤ most) (sym is.station.stands.clock)
      (greatest-above (λ (m : NodeId). clock_of (r.doings m.0)) 0 (ids_of t) n there)

  -- Stations

  is_posted_at : (n : NodeId) (x y : StationState) → Contains (ids_of t) n → IsStationAt t lines r w n x →
      TakesPost t r c n x y → IsPosted t n (deeds_at r n.0) c (holding_of x).station (holding_of y).station
  is_posted_at n x y there is f = record {
    enabled = enabled-alone t lines r w xs all c on n.0;
    controller = f.controller;
    desk = f.desk;
    clock = subst (λ k. x.clock < k) (sym f.clock) (let le = clock_below n x there is in omega (arith, le));
    log = f.log;
    links = ap (map view_of) f.links;
  }

  station : (n : NodeId) (x y : StationState) → Contains (ids_of t) n → IsStationAt t lines r w n x →
      TakesPost t r c n x y → IsStationAt t lines later w n y
  station n x y there is f = record {
    station = record {
      stands =
          subst (λ k. StandsBy t n (r.doings n.0 ++ Did (Posted k c) ∷ []) (holding_of y)) f.clock
          (posts-stand t n (r.doings n.0) c (holding_of x) (holding_of y) is.station.stands
          (is_posted_at n x y there is f) f.held);
      taken =
          subst (AllByRecursion (IsTakenFrom (later.doings n.0))) (sym f.links)
          (taken-still (r.doings n.0) (Did deed ∷ []) x.links (λ u. refl) is.station.taken);
    };
    links = f.links ∙ is.links;
    told = λ u k. ap (λ ls. says ls u n k) f.lines ∙ is.told u k;
  }

  -- Rings

  ring : (u d : NodeId) → is_world_channel t u d ≡ true → IsRingOf t later w u d
  ring u d joined = ring-kept t r later w u d (all.rings u d joined) refl count got
    where
      count : count_of t later u d ≡ count_of t r u d
      count =
          ap (λ (v : World). length (v.channels u.0 d.0)) (alone-did t u (r.doings u.0) deed)
          ∙ ap length ((others-are-untouched t (alone t u (deeds_at r u.0)) (Post c) u.0 refl).channels d.0)

      got : got_from u (later.doings d.0) ≡ got_from u (r.doings d.0)
      got = got-append u (r.doings d.0) (Did deed ∷ []) ∙ append-nil (got_from u (r.doings d.0))

  -- At a number that is no node's

  -- what was posted there has no stamp above the clock of a node
  few_stamps : (n : ℕ) → HasPosts t (deeds_at r) n → AllByRecursion (λ (d : Deed). stamp_of d ≤ most) (deeds_at r n)
  few_stamps n was =
      subst (AllByRecursion (λ (d : Deed). stamp_of d ≤ most))
      (same-deeds t lines r w xs all m.0.0 n ∙ ap (filter is_posted) was.all ∙ all_posts was.posts ∙ sym was.all)
      (all-filter (λ (d : Deed). stamp_of d ≤ most) is_posted (deeds_at r m.0.0)
      (each-more (λ (d : Deed). stamp_of d ≤ b.item.clock) (λ (d : Deed). stamp_of d ≤ most)
      (λ d le. omega (arith, le, least)) (deeds_at r m.0.0) b.is.station.stands.sound.below))
    where
      m : (n : NodeId) × Contains (ids_of t) n
      m = some_node t all.valid

      b : Beside (IsStationAt t lines r w) xs m.0
      b = at-node t lines r w xs all m.0 (known_there m.0 m.1)

      least : b.item.clock ≤ most
      least = clock_below m.0 b.item m.1 b.is

  nowhere : (n : ℕ) → is_node_id t.nodes (at n) ≡ false → IsRecordNowhere t later n
  nowhere n none =
      let was = all.nowhere n none in
      record {
        posts = record {
          posts = was.posts.posts ++ (most + 1, c) ∷ [];
          all =
              deeds_now n ∙ ap (λ ds. ds ++ deed ∷ []) was.posts.all
              ∙ sym (map-append (λ (p : ℕ × Command). Posted p.0 p.1) was.posts.posts ((most + 1, c) ∷ []));
          doable =
              subst (AreDoable t (at n) (world_start t)) (sym (deeds_now n))
              (doable-more t (at n) (world_start t) (deeds_at r n) deed was.posts.doable
              (enabled-alone t lines r w xs all c on n));
        };
        rises =
            subst (RisesAbove 0) (sym (deeds_now n))
            (rises-more 0 most (deeds_at r n) deed was.rises (few_stamps n was.posts) (omega arith) (omega arith));
      }

  -- Posts

  abbrev line : Entry
  line = record { stamp = most + 1; node = None; event = Post c }

  posts_now : (n : ℕ) → posts_of (at n) (deeds_at later n) ≡ posts_in r ++ line ∷ []
  posts_now n =
      ap (posts_of (at n)) (deeds_now n)
      ∙ ap (map (line_of (at n))) (filter-append is_posted (deeds_at r n) (deed ∷ []))
      ∙ map-append (line_of (at n)) (filter is_posted (deeds_at r n)) (deed ∷ [])
      ∙ ap (λ es. es ++ line ∷ []) (all.posts n)

  -- the record has one post more
  pub posts-in-now : posts_in later ≡ posts_in r ++ line ∷ []
  posts-in-now = posts_now 0

  stays_in : (s : ℕ) → IsStampIn t r s → IsStampIn t later s
  stays_in s is = record {
    node = is.node;
    known = is.known;
    deed = is.deed;
    there =
        subst (λ ds. Contains ds is.deed) (sym (deeds_now is.node.0))
        (Contains-append_left (deeds_at r is.node.0) (deed ∷ []) is.deed is.there);
    stamp = is.stamp;
  }

  follows_still : (s : ℕ) → HasPredecessor t r s → HasPredecessor t later s
  follows_still s (inl one) = inl one
  follows_still s (inr p) = inr (p.0, stays_in p.0 p.1, p.2)

  -- the stamp of the post is 1, or one more than that of the last deed of a node
  new_follows : HasPredecessor t later (most + 1)
  new_follows = go (greatest-found (λ (n : NodeId). clock_of (r.doings n.0)) 0 (ids_of t))
    where
      last : (n : NodeId) → Contains (ids_of t) n → clock_of (r.doings n.0) ≡ most →
          (clock_of (r.doings n.0) ≡ 0) ⊎
          ((d : Deed) × Contains (deeds_at r n.0) d × (stamp_of d ≡ clock_of (r.doings n.0))) →
          HasPredecessor t later (most + 1)
      last n there same (inl none) = inl (ap (λ k. k + 1) (sym same ∙ none))
      last n there same (inr d) = inr (
        most,
        stays_in most (record {
          node = n;
          known = known_there n there;
          deed = d.0;
          there = d.1;
          stamp = d.2 ∙ same;
        }),
        refl,
      )

      go : (most ≡ 0) ⊎ ((n : NodeId) × Contains (ids_of t) n × (clock_of (r.doings n.0) ≡ most)) →
          HasPredecessor t later (most + 1)
      go (inl none) = inl (ap (λ k. k + 1) none)
      go (inr n) = last n.0 n.1 n.2 (clock-found 0 (deeds_at r n.0.0))

  follow_now : PostsFollow t later
  follow_now n s x known there =
      elim (Contains-append_cases (deeds_at r n.0) (deed ∷ []) (Posted s x)
      (subst (λ ds. Contains ds (Posted s x)) (deeds_now n.0) there)) [
        | inl was ↦ follows_still s (follow n s x known was)
        | inr new ↦ elim (contains-cases deed (Posted s x) [] new) [
          | inl is ↦ subst (HasPredecessor t later) (cc (is)) new_follows
          | inr more ↦ absurd (contains-none (Posted s x) more)
        ]
      ]

  -- The stations stand for the record with the post.
  pub standing-posted : (ys : List StationState) → TakePosts t r c xs ys → AreStanding t lines later w ys
  standing-posted ys takes = record {
    valid = all.valid;
    each =
        zip-places (IsStationAt t lines r w) (TakesPost t r c) (IsStationAt t lines later w) (ids_of t) station
        (ids_of t) xs ys (λ n there. there) all.each takes.count takes.each;
    rings = ring;
    nowhere = nowhere;
    posts = λ n. posts_now n ∙ sym (posts_now 0);
  }

pub posts-stand-for : PostsStandFor
posts-stand-for t lines c r w xs ys all follow on takes = record {
  stands = standing-posted t lines c r w xs all follow on ys takes;
  follow = follow_now t lines c r w xs all follow on;
}

-- The logs and posts of a record can be merged, so some run leads to its world.
use Rattle.std.proofs.Common.{◌≡◌, ◌≤◌, inl, inr, ℕ, Bool, true, false, cond, not, nat_eq, List, [], ◌∷◌, ◌++◌, filter, map, refl, ap, ◌∙◌, append-nil, arith}
use Rattle.std.specs.{Prelude.{◌&&◌, nat_lt}, List.{AllByRecursion, flat_map}}
use Rattle.ason_base.specs.{declared.limits.TheConstants.MOST_EVENTS, declared.ids.NodeId.NodeId, declared.commands.Entry.Entry, declared.network.NodeSpec.NodeSpec, Network.{Network, is_node_id}}
use Rattle.world_rules.specs.Worlds.{World, world_start}
use Rattle.world_rules.proofs.Numbered.{rises}
use Rattle.world_merge.specs.{Deeds.{AreDoable, Deed, Handled, Heard, Posted, Ticked, Took, done, stamp_of}, Histories.at, Logs.{RisesAbove, is_posted, line_of}, Merges.{IsRunOf, events_of}, Orders.{IsMerge, IsSorted, is_of, is_post}, Picking.{HasNoLine, IsPicked, merged_of}}
use Rattle.world_merge.proofs.{Lines.post-lines, Picking.picking-sorts, Picked.none-of, PostsOfNone.post_of_none}
use Rattle.round_rules.specs.Records.{deeds_at, log_at, posts_in}
use Rattle.round_rules.proofs.Records.{records-are-runs}
use Rattle.round_laws.specs.FleetLaw.{RecordsAreReached}
use Rattle.round_laws.proofs.Sorting.{NonePosted, all_of, all_sorted, in_one, lists, sorted_lines}

-- Deeds that aren't posts

none_posted : (ds : List Deed) → NonePosted (filter (λ d. not (is_posted d)) ds)
none_posted [] = tt
none_posted (d ∷ ds) = go (is_posted d) refl (none_posted ds)
  where
    go : (b : Bool) → is_posted d ≡ b → NonePosted (filter (λ d. not (is_posted d)) ds) →
        NonePosted (cond (not b) (d ∷ filter (λ d. not (is_posted d)) ds) (filter (λ d. not (is_posted d)) ds))
    go true e rest = rest
    go false e rest = (e, rest)

lower : (r s : ℕ) (ds : List Deed) → r ≤ s → RisesAbove s ds → RisesAbove r ds
lower r s [] le up = tt
lower r s (d ∷ ds) le up = (omega (arith, le, up.0), up.1)

rises_filter : (p : Deed → Bool) (s : ℕ) (ds : List Deed) → RisesAbove s ds → RisesAbove s (filter p ds)
rises_filter p s [] up = tt
rises_filter p s (d ∷ ds) up = go (p d) (rises_filter p (stamp_of d) ds up.1)
  where
    go : (b : Bool) → RisesAbove (stamp_of d) (filter p ds) → RisesAbove s (cond b (d ∷ filter p ds) (filter p ds))
    go true rest = (up.0, rest)
    go false rest = lower s (stamp_of d) (filter p ds) (omega (arith, up.0)) rest

-- what is no node does nothing
idle : (t : Network) (n : NodeId) (w : World) (ds : List Deed) → is_node_id t.nodes n ≡ false → AreDoable t n w ds →
    filter (λ d. not (is_posted d)) ds ≡ []
idle t n w [] non may = refl
idle t n w (Posted s c ∷ ds) non may = idle t n (done t n w (Posted s c)) ds non may.1
idle t n w (Ticked s ∷ ds) non may =
    absurd (cc (non, first (is_node_id t.nodes n) (nat_lt (w.made n.0) MOST_EVENTS) may.0))
  where
    first : (a b : Bool) → (a && b) ≡ true → a ≡ true
    first true b h = refl
    first false b h = absurd (cc (h))
idle t n w (Handled s ∷ ds) non may = absurd (cc (non, (let h : is_node_id t.nodes n ≡ true = grind (arith, may.0) in h)))
idle t n w (Took s u k x ∷ ds) non may =
    absurd (cc (non, (let h : is_node_id t.nodes n ≡ true = grind (arith, may.0) in h)))
idle t n w (Heard s u bytes ∷ ds) non may =
    absurd (cc (non, (let h : is_node_id t.nodes n ≡ true = grind (arith, may.0.0) in h)))

-- Tests

of_line : (n : ℕ) (k : NodeId) (d : Deed) → is_posted d ≡ false → is_of n (line_of k d) ≡ nat_eq k.0 n
of_line n k (Ticked s) is = refl
of_line n k (Handled s) is = refl
of_line n k (Took s u i x) is = refl
of_line n k (Heard s u bytes) is = refl
of_line n k (Posted s c) is = absurd (cc (is))

no_post : (k : NodeId) (ds : List Deed) → NonePosted ds → filter is_post (map (line_of k) ds) ≡ []
no_post k [] none = refl
no_post k (Ticked s ∷ ds) none = no_post k ds none.1
no_post k (Handled s ∷ ds) none = no_post k ds none.1
no_post k (Took s u i x ∷ ds) none = no_post k ds none.1
no_post k (Heard s u bytes ∷ ds) none = no_post k ds none.1
no_post k (Posted s c ∷ ds) none = absurd (cc (none.0))

no_posts : (deeds : ℕ → List Deed) → ((n : ℕ) → NonePosted (deeds n)) →
    (ms : List NodeSpec) → HasNoLine is_post (lists deeds ms)
no_posts deeds none [] = tt
no_posts deeds none (m ∷ ms) = (no_post m.id (deeds m.id.0) (none m.id.0), no_posts deeds none ms)

posts_pass : (m : List Entry) → AllByRecursion (λ (e : Entry). is_post e ≡ true) m → filter is_post m ≡ m
posts_pass [] all = refl
posts_pass (e ∷ m) all =
    ap (λ b. cond b (e ∷ filter is_post m) (filter is_post m)) all.0 ∙ ap (λ xs. e ∷ xs) (posts_pass m all.1)

posts_out : (n : ℕ) (m : List Entry) → AllByRecursion (λ (e : Entry). is_post e ≡ true) m → filter (is_of n) m ≡ []
posts_out n [] all = refl
posts_out n (e ∷ m) all =
    ap (λ b. cond b (e ∷ filter (is_of n) m) (filter (is_of n) m)) (post_of_none n e all.0) ∙ posts_out n m all.1

-- Some run leads to the world of each record.
pub records-are_reached : RecordsAreReached
records-are_reached t r valid is = (events_of m, record { run = run.run; leads = run.leads })
  where
    deeds : ℕ → List Deed
    deeds n = filter (λ d. not (is_posted d)) (deeds_at r n)

    none : (n : ℕ) → NonePosted (deeds n)
    none n = none_posted (deeds_at r n)

    posts : List Entry
    posts = posts_in r

    all_posts : AllByRecursion (λ (e : Entry). is_post e ≡ true) posts
    all_posts = post-lines (at 0) (deeds_at r 0)

    ls : List (List Entry)
    ls = posts ∷ lists deeds t.nodes

    sorted : AllByRecursion IsSorted ls
    sorted = (
      sorted_lines (at 0) 0 (filter is_posted (deeds_at r 0)) (rises_filter is_posted 0 (deeds_at r 0) (is.rises 0)),
      all_sorted deeds t.nodes (λ n. (0, rises_filter (λ d. not (is_posted d)) 0 (deeds_at r n) (is.rises n))),
    )

    p : IsPicked ls
    p = picking-sorts ls sorted

    m : List Entry
    m = merged_of ls

    merge : IsMerge (log_at r) posts m
    merge = record {
      sorted = p.sorted;
      each_log = λ n.
          p.each (is_of n) (inl (
            posts_out n posts all_posts,
            in_one (is_of n) n (of_line n) deeds none 0 t.nodes
                (rises t valid),
          ))
          ∙ ap (λ xs. xs ++ flat_map (filter (is_of n)) (lists deeds t.nodes)) (posts_out n posts all_posts)
          ∙ all_of (is_of n) n (of_line n) deeds none 0 t.nodes (rises t valid)
          (λ non. idle t (at n) (world_start t) (deeds_at r n) non (is.histories.doable n));
      all_posts = p.each is_post (inr (no_posts deeds none t.nodes))
          ∙ ap (λ xs. filter is_post posts ++ xs) (none-of is_post (lists deeds t.nodes) (no_posts deeds none t.nodes))
          ∙ append-nil (filter is_post posts) ∙ posts_pass posts all_posts;
    }

    run : IsRunOf t (deeds_at r) m
    run = records-are-runs t r m is merge

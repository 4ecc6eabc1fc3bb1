-- The logs and posts of a record have a merge.
use Rattle.std.proofs.Common.{◌≡◌, ◌<◌, ◌≤◌, ℕ, Bool, true, false, cond, List, [], ◌∷◌, filter, map, refl, sym, ◌∙◌, subst, arith}
use Rattle.std.specs.{Prelude.{◌&&◌, not}, List.AllByRecursion}
use Rattle.ason_base.specs.{declared.ids.NodeId.NodeId, declared.commands.Entry.Entry, Network.{IsTopology, Network, is_node_id}}
use Rattle.ason_base.proofs.Bools.{and-left}
use Rattle.world_rules.specs.Worlds.{World, world_start}
use Rattle.world_merge.specs.{Deeds.{AreDoable, Deed, Handled, Heard, Posted, Ticked, Took, done, stamp_of}, Histories.at, Logs.{RisesAbove, is_posted, line_of, log_of}, Orders.{IsMerge, IsSorted}, Picking.merged_of, MergedLogs.{AreLogsOf, EveryMergingMerges}}
use Rattle.world_merge.proofs.{Lines.{own-lines, post-lines}, Splitting.line-stamp}
use Rattle.round_rules.specs.{Records.{Record, deeds_at, log_at, posts_in}, PossibleRecords.IsRecord}
use Rattle.script_rules.proofs.Nodes.{among, distinct_nodes, node_numbers}
use Rattle.world_merge.proofs.SortedLines.{sorted_lines}

-- Lines

-- stamps that rise stay above where some deeds are left out
all_above : (p : Deed → Bool) (n : NodeId) (r s : ℕ) (ds : List Deed) → r ≤ s → RisesAbove s ds →
    AllByRecursion (λ (e : Entry). r < e.stamp) (map (line_of n) (filter p ds))
all_above p n r s [] below up = tt
all_above p n r s (d ∷ ds) below up = go (p d) (all_above p n r (stamp_of d) ds (omega (arith, below, up.0)) up.1)
  where
    go : (b : Bool) → AllByRecursion (λ (e : Entry). r < e.stamp) (map (line_of n) (filter p ds)) →
        AllByRecursion (λ (e : Entry). r < e.stamp) (map (line_of n) (cond b (d ∷ filter p ds) (filter p ds)))
    go true rest = (omega (arith, below, up.0, line-stamp n d), rest)
    go false rest = rest

-- each stamp is below all later ones
abbrev pub IsStrict : List Entry → Type 0
IsStrict [] = Unit {0}
IsStrict (e ∷ m) = AllByRecursion (λ (f : Entry). e.stamp < f.stamp) m × IsStrict m

-- The lines of deeds whose stamps rise are so, where some are left out, too.
pub strict_lines : (p : Deed → Bool) (n : NodeId) (s : ℕ) (ds : List Deed) → RisesAbove s ds →
    IsStrict (map (line_of n) (filter p ds))
strict_lines p n s [] up = tt
strict_lines p n s (d ∷ ds) up =
    go (p d) (all_above p n (stamp_of d) (stamp_of d) ds (omega arith) up.1) (strict_lines p n (stamp_of d) ds up.1)
  where
    go : (b : Bool) → AllByRecursion (λ (e : Entry). stamp_of d < e.stamp) (map (line_of n) (filter p ds)) →
        IsStrict (map (line_of n) (filter p ds)) → IsStrict (map (line_of n) (cond b (d ∷ filter p ds) (filter p ds)))
    go true later rest = (
      subst (λ k. AllByRecursion (λ (e : Entry). k < e.stamp) (map (line_of n) (filter p ds))) (sym (line-stamp n d))
          later,
      rest,
    )
    go false later rest = rest

-- Logs

-- what isn't a node of the network has no log
not_both : (a b : Bool) → a ≡ false → (a && b) ≡ true → ⊥
not_both false b none both = absurd (cc (both))
not_both true b none both = absurd (cc (none))

no_log : (t : Network) (n : NodeId) (w : World) (ds : List Deed) → is_node_id t.nodes n ≡ false →
    AreDoable t n w ds → log_of n ds ≡ []
no_log t n w [] none are = refl
no_log t n w (Ticked s ∷ ds) none are = absurd (not_both _ _ none are.0)
no_log t n w (Handled s ∷ ds) none are = absurd (not_both _ _ none (and-left _ _ are.0))
no_log t n w (Took s u k x ∷ ds) none are = absurd (not_both _ _ none (and-left _ _ are.0))
no_log t n w (Heard s u bytes ∷ ds) none are = absurd (not_both _ _ none (and-left _ _ are.0.0))
no_log t n w (Posted s c ∷ ds) none are = no_log t n (done t n w (Posted s c)) ds none are.1

their_logs : (r : Record) (ns : List ℕ) → AreLogsOf (log_at r) ns (map (log_at r) ns)
their_logs r [] = tt
their_logs r (n ∷ ns) = (record { log = refl; own = own-lines (at n) (deeds_at r n) }, their_logs r ns)

sorted_logs : (t : Network) (r : Record) → IsRecord t r → (ns : List ℕ) →
    AllByRecursion IsSorted (map (log_at r) ns)
sorted_logs t r is [] = tt
sorted_logs t r is (n ∷ ns) =
    (sorted_lines (λ d. not (is_posted d)) (at n) 0 (deeds_at r n) (is.rises n), sorted_logs t r is ns)

-- What is merged of the posts and the logs of all nodes is a merge of the record.
pub has_merge : EveryMergingMerges → (t : Network) (r : Record) → IsTopology t → IsRecord t r →
    (m : List Entry) × IsMerge (log_at r) (posts_in r) m
has_merge merging t r valid is =
    let ns = node_numbers t.nodes in (
      merged_of (posts_in r ∷ map (log_at r) ns),
      merging (log_at r) (posts_in r) ns (map (log_at r) ns) (record {
        distinct = distinct_nodes t valid;
        each_log = their_logs r ns;
        others = λ n none. no_log t (at n) (world_start t) (deeds_at r n) (sym (among t.nodes (at n)) ∙ none)
            (is.histories.doable n);
        posted = post-lines (at 0) (deeds_at r 0);
        sorted = (sorted_lines is_posted (at 0) 0 (deeds_at r 0) (is.rises 0), sorted_logs t r is ns);
      }),
    )

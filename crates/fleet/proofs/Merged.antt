-- The merge of the logs and posts of a fleet is a run of a world.
use Rattle.std.proofs.{Common.{◌≡◌, ◌+◌, ℕ, true, false, not, nat_eq, List, [], ◌∷◌, length, map, refl, sym, ap, ◌∙◌, subst, arith}, lemmas.List.Sums.sum_by-cons}
use Rattle.std.specs.{Prelude.{◌&&◌, ◌||◌, sum_by}, List.{AllByRecursion, AllZip, list_any}}
use Rattle.ason_base.specs.{declared.ids.NodeId.NodeId, declared.commands.Command.Command, declared.commands.Disturb.Disturb, declared.commands.Entry.Entry, declared.network.NodeSpec.NodeSpec, Network.{Network, is_distinct, is_node_id}}
use Rattle.world_merge.specs.{MergedLogs.{AreLogsOf, EveryMergingMerges, HasLogs}, Deeds.{Posted}, Histories.at, Logs.{is_posted, log_of}, Orders.{IsMerge, IsSorted, is_of}, Picking.{merged_of, lines_total}}
use Rattle.world_merge.proofs.{Lines.{own-lines, post-lines}}
use Rattle.round_rules.specs.{OneWorker.ids_of, Records.{Record, deeds_at, log_at, posts_in}, States.StationState, Fleets.{IsStationAt, Wires}, Moves.AreApart, PossibleRecords.IsRecord}
use Rattle.round_rules.proofs.{Records.records-are-runs, Joined.standing-is-a-record, Nodes.apart-ids}
use Rattle.fleet.specs.{Rounds.{Merges, entries_in, record_lines}, Standing.{FleetState, StandsFor}}
use Rattle.world_merge.proofs.SortedLines.{sorted_lines}

abbrev pub log_of_station : StationState → List Entry
log_of_station s = s.log

no_lines : (n : NodeId) (posts : List (ℕ × Command)) → log_of n (map (λ c. Posted c.0 c.1) posts) ≡ []
no_lines n [] = refl
no_lines n (p ∷ posts) = no_lines n posts

-- Stamps rise, so lists are sorted

-- Nodes

none_same : (a : ℕ) (ns : List NodeId) → AllByRecursion (λ (m : NodeId). nat_eq m.0 a ≡ false) ns →
    list_any (λ m. nat_eq m a) (map (λ (n : NodeId). n.0) ns) ≡ false
none_same a [] all = refl
none_same a (n ∷ ns) all =
    ap (λ b. b || list_any (λ m. nat_eq m a) (map (λ (k : NodeId). k.0) ns)) all.0 ∙ none_same a ns all.1

distinct_ids : (ns : List NodeId) → AreApart ns → is_distinct (map (λ (n : NodeId). n.0) ns) ≡ true
distinct_ids [] apart = refl
distinct_ids (n ∷ ns) apart =
    ap (λ b. not b && is_distinct (map (λ (k : NodeId). k.0) ns)) (none_same n.0 ns apart.0)
    ∙ distinct_ids ns apart.1

among_numbers : (nodes : List NodeSpec) (n : ℕ) →
    list_any (λ m. nat_eq m n) (map (λ (k : NodeId). k.0) (map (λ (m : NodeSpec). m.id) nodes)) ≡
    is_node_id nodes (at n)
among_numbers [] n = refl
among_numbers (m ∷ nodes) n = ap (λ b. nat_eq m.id.0 n || b) (among_numbers nodes n)

-- The lists of a fleet

each_log : (t : Network) (lines : List Disturb) (r : Record) (w : Wires) (ns : List NodeId) (xs : List StationState) →
    AllZip (IsStationAt t lines r w) ns xs →
    AreLogsOf (log_at r) (map (λ (n : NodeId). n.0) ns) (map log_of_station xs)
each_log t lines r w [] [] all = tt
each_log t lines r w [] (x ∷ xs) all = absurd all
each_log t lines r w (n ∷ ns) [] all = absurd all
each_log t lines r w (n ∷ ns) (x ∷ xs) all = (
  record {
    log = log;
    own = subst (AllByRecursion (λ (e : Entry). is_of n.0 e ≡ true)) (sym log) (own-lines n (deeds_at r n.0));
  },
  each_log t lines r w ns xs all.1,
)
  where
    log : x.log ≡ log_at r n.0
    log = all.0.station.stands.sound.log

each_sorted : (t : Network) (lines : List Disturb) (r : Record) (w : Wires) (ns : List NodeId)
    (xs : List StationState) → AllZip (IsStationAt t lines r w) ns xs → AllByRecursion IsSorted (map log_of_station xs)
each_sorted t lines r w [] [] all = tt
each_sorted t lines r w [] (x ∷ xs) all = absurd all
each_sorted t lines r w (n ∷ ns) [] all = absurd all
each_sorted t lines r w (n ∷ ns) (x ∷ xs) all = (
  subst IsSorted (sym all.0.station.stands.sound.log)
      (sorted_lines (λ d. not (is_posted d)) n 0 (deeds_at r n.0) all.0.station.stands.sound.rises),
  each_sorted t lines r w ns xs all.1,
)

-- all lists together have as many lines as the fleet
pub all_lines : (f : FleetState) → lines_total (f.posts ∷ map log_of_station f.stations) ≡ entries_in f
all_lines f =
    let logs = log_lines f.stations in omega (arith, logs)
  where
    log_lines : (xs : List StationState) → lines_total (map log_of_station xs) ≡ sum_by
        (λ (s : StationState). length s.log) xs
    log_lines [] = refl
    log_lines (x ∷ xs) =
        ap (λ k. length x.log + k) (log_lines xs) ∙ sym (sum_by-cons (λ (s : StationState). length s.log) x xs)

-- The posts and the logs of a fleet merge to a run.
pub fleet-merges : EveryMergingMerges → (f : FleetState) →
    Merges f (merged_of (f.posts ∷ map log_of_station f.stations))
fleet-merges law f t lines r s = record { merge = merge; run = records-are-runs t r merged is merge }
  where
    is : IsRecord t r
    is = standing-is-a-record t lines r s.wires f.stations s.stations s.begun

    merged : List Entry
    merged = merged_of (f.posts ∷ map log_of_station f.stations)

    others : (n : ℕ) → list_any (λ m. nat_eq m n) (map (λ (k : NodeId). k.0) (ids_of t)) ≡ false → log_at r n ≡ []
    others n none =
        let posts = (s.stations.nowhere n (sym (among_numbers t.nodes n) ∙ none)).posts in
        ap (log_of (at n)) posts.all ∙ no_lines (at n) posts.posts

    has : HasLogs (log_at r) (posts_in r) (map (λ (n : NodeId). n.0) (ids_of t)) (map log_of_station f.stations)
    has = record {
      distinct = distinct_ids (ids_of t) (apart-ids t s.stations.valid);
      each_log = each_log t lines r s.wires (ids_of t) f.stations s.stations.each;
      others = others;
      posted = post-lines (at 0) (deeds_at r 0);
      sorted = (
        sorted_lines is_posted (at 0) 0 (deeds_at r 0) (is.rises 0),
        each_sorted t lines r s.wires (ids_of t) f.stations s.stations.each,
      );
    }

    merge : IsMerge (log_at r) (posts_in r) merged
    merge =
        subst (λ posts. IsMerge (log_at r) (posts_in r) (merged_of (posts ∷ map log_of_station f.stations)))
        (sym s.posts)
        (law (log_at r) (posts_in r) (map (λ (n : NodeId). n.0) (ids_of t))
        (map log_of_station f.stations) has)

lines_same : (t : Network) (lines : List Disturb) (r : Record) (w : Wires) (ns : List NodeId)
    (xs : List StationState) → AllZip (IsStationAt t lines r w) ns xs →
    sum_by (λ (x : StationState). length x.log) xs ≡ sum_by (λ (n : NodeId). length (log_at r n.0)) ns
lines_same t lines r w [] [] all = refl
lines_same t lines r w [] (x ∷ xs) all = absurd all
lines_same t lines r w (n ∷ ns) [] all = absurd all
lines_same t lines r w (n ∷ ns) (x ∷ xs) all =
    sum_by-cons (λ (y : StationState). length y.log) x xs
    ∙ ap (λ (l : List Entry). length l + sum_by (λ (y : StationState). length y.log) xs)
    all.0.station.stands.sound.log
    ∙ ap (λ k. length (log_at r n.0) + k) (lines_same t lines r w ns xs all.1)
    ∙ sym (sum_by-cons (λ (m : NodeId). length (log_at r m.0)) n ns)

-- all logs of the stations have as many lines as those of the record
pub lines-stand : (t : Network) (lines : List Disturb) (f : FleetState) (r : Record) → StandsFor t lines f r →
    sum_by (λ (x : StationState). length x.log) f.stations ≡ record_lines t r
lines-stand t lines f r s = lines_same t lines r s.wires (ids_of t) f.stations s.stations.each

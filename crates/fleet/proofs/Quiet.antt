-- Where nothing waits at the nodes of a fleet, nothing waits in the world, and the other way round.
use Rattle.std.proofs.{Common.{◌≡◌, ◌+◌, ℕ, Bool, true, false, nat_eq, List, [], ◌∷◌, length, map, refl, ◌∙◌, subst, eqb-true}, lemmas.List.Sums.sum_by-cons}
use Rattle.std.specs.{Prelude.{◌&&◌, ◌||◌, sum_by}, List.{AllByRecursion, AllZip, list_all}}
use Rattle.ason_base.specs.{declared.ids.NodeId.NodeId, declared.commands.Disturb.Disturb, declared.network.NodeSpec.NodeSpec, Network.{Network, is_node_id}}
use Rattle.ason_base.proofs.Bools.{and-left, and-right}
use Rattle.mesh_rules.specs.LocalNodes.{local_node}
use Rattle.control_channels.specs.Adjacencies.{neighbours}
use Rattle.world_rules.specs.{Images.IsQuietWorld, Worlds.World, Standing.NodeStands}
use Rattle.world_core.specs.Replays.{IsNowhere}
use Rattle.world_core.proofs.{Nowhere.nowhere-run, Tabled.{IsNodeStill, nothing-waits}}
use Rattle.world_merge.specs.{Merges.{IsRunOf, events_of}, Picking.merged_of, MergedLogs.EveryMergingMerges}
use Rattle.round_rules.specs.{Records.{Record, deeds_at, world_of}, States.StationState, Waiting.{is_world_quiet, is_quiet_at}}
use Rattle.fleet.specs.{FleetLaws.QuietIsTheWorlds, Standing.{FleetState, StandsFor}, Waiting.has_nothing}
use Rattle.fleet.proofs.{Merged.{fleet-merges, log_of_station}, Sums.{quiet-stands, stations-along}}

-- From the nodes to the world

-- what holds of each node whose station passes, where all stations pass
each-along : {X Y : Type 0} (p : X → Bool) (P : Y → Type 0) (xs : List X) (ys : List Y) →
    AllZip (λ x y. p x ≡ true → P y) xs ys → list_all p xs ≡ true → AllByRecursion P ys
each-along p P [] [] all pass = tt
each-along p P [] (y ∷ ys) all pass = absurd all
each-along p P (x ∷ xs) [] all pass = absurd all
each-along p P (x ∷ xs) (y ∷ ys) all pass = (
  all.0 (and-left (p x) (list_all p xs) pass),
  each-along p P xs ys all.1 (and-right (p x) (list_all p xs) pass),
)

-- what holds of each node holds at the number of one
node-has : (P : ℕ → Type 0) (nodes : List NodeSpec) (n : NodeId) → AllByRecursion (λ (m : NodeSpec). P m.id.0) nodes →
    is_node_id nodes n ≡ true → P n.0
node-has P [] n all there = absurd (cc (there))
node-has P (m ∷ nodes) n all there = go (nat_eq m.id.0 n.0) refl there (node-has P nodes n all.1)
  where
    go : (b : Bool) → nat_eq m.id.0 n.0 ≡ b → (b || is_node_id nodes n) ≡ true →
        (is_node_id nodes n ≡ true → P n.0) → P n.0
    go true e h later = subst P (eqb-true m.id.0 n.0 e) all.0
    go false e h later = later h

-- the merge of its logs and posts is a run that leads to its world
run_of : EveryMergingMerges → (t : Network) (lines : List Disturb) (f : FleetState) (r : Record) →
    StandsFor t lines f r → IsRunOf t (deeds_at r) (merged_of (f.posts ∷ map log_of_station f.stations))
run_of law t lines f r s = (fleet-merges law f t lines r s).run

still_at : EveryMergingMerges → (t : Network) (lines : List Disturb) (f : FleetState) (r : Record) →
    StandsFor t lines f r → is_world_quiet t (world_of t r) ≡ true → (n : NodeId) → IsNodeStill (world_of t r) n.0
still_at law t lines f r stands quiet n = go (is_node_id t.nodes n) refl
  where
    w : World
    w = world_of t r

    one : (x : StationState) (m : NodeSpec) → NodeStands t w m.id x.controller x.desk → has_nothing x ≡ true →
        IsNodeStill w m.id.0
    one x m is pass =
        nothing-waits w m.id.0 x.desk x.controller.adjacencies x.controller.flood is.desk is.stands.hops is.flood pass

    run : IsRunOf t (deeds_at r) (merged_of (f.posts ∷ map log_of_station f.stations))
    run = run_of law t lines f r stands

    go : (b : Bool) → is_node_id t.nodes n ≡ b → IsNodeStill w n.0
    go false none =
        let is : IsNowhere w n.0 =
        subst (λ (v : World). IsNowhere v n.0) run.leads
        (nowhere-run t (events_of (merged_of (f.posts ∷ map log_of_station f.stations))) n stands.stations.valid run.run
        none) in
        record { desk = is.desk; hops = is.hops; flood = is.flood }
    go true there =
        node-has (IsNodeStill w) t.nodes n
        (each-along has_nothing (λ (m : NodeSpec). IsNodeStill w m.id.0) f.stations t.nodes
        (stations-along t lines f r (λ x m. has_nothing x ≡ true → IsNodeStill w m.id.0) stands one)
        (quiet-stands t lines f r stands ∙ quiet)) there

-- From the world to the nodes

none-unacked : (w : World) (n : ℕ) (us : List ℕ) → IsQuietWorld w → sum_by (λ u. length (w.ends n u).hop.unacked) us ≡ 0
none-unacked w n [] quiet = refl
none-unacked w n (u ∷ us) quiet =
    sum_by-cons (λ u. length (w.ends n u).hop.unacked) u us
    ∙ (λ i. length (quiet.hops n u i) + none-unacked w n us quiet i)

quiet-at : (t : Network) (w : World) (n : NodeId) → IsQuietWorld w → is_quiet_at t w n ≡ true
quiet-at t w n quiet = λ i. nat_eq (length (quiet.desks n.0 i)) 0
    && nat_eq (none-unacked w n.0 (neighbours (local_node t n)) quiet i) 0 && nat_eq (quiet.floods n.0 i) 0

quiet-nodes : (t : Network) (w : World) (nodes : List NodeSpec) → IsQuietWorld w →
    list_all (λ (n : NodeSpec). is_quiet_at t w n.id) nodes ≡ true
quiet-nodes t w [] quiet = refl
quiet-nodes t w (n ∷ nodes) quiet = λ i. quiet-at t w n.id quiet i && quiet-nodes t w nodes quiet i

-- the world of a record is quiet just where its nodes are
pub quiet-is-the-worlds : EveryMergingMerges → QuietIsTheWorlds
quiet-is-the-worlds law t lines f r stands = (
  λ quiet. record {
    desks = λ n. (still_at law t lines f r stands quiet (record { 0 = n })).desk;
    hops = λ u d. (still_at law t lines f r stands quiet (record { 0 = u })).hops d;
    floods = λ n. (still_at law t lines f r stands quiet (record { 0 = n })).flood;
  },
  λ quiet. quiet-nodes t (world_of t r) t.nodes quiet,
)

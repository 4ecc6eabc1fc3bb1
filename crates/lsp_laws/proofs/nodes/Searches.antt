-- Over a topology routes can be asked of what each node knows, in every state of every run.
use Rattle.std.proofs.Common.{◌≡◌, Bool, true, false, cond, nat_eq, List, [], ◌∷◌, refl, subst, arith}
use Rattle.std.specs.Prelude.{Option, Some, None}
use Rattle.ason_base.specs.{declared.commands.Command.Command, declared.commands.Command.TheVariants.Setup, declared.ids.LinkId.LinkId, declared.ids.NodeId.NodeId, declared.network.LinkSpec.LinkSpec, Network.{IsTopology, Network, find_link, row_of}}
use Rattle.mesh_rules.specs.{declared.events.MeshEvent.MeshEvent, declared.events.MeshEvent.TheVariants.{Take, Desk, Tick, Learn, Post}, Changes.{Answer, changed}, Events.{IsRun, after, on_first, on_first_item, posted, step}, Learnt.on_link, LocalNodes.local_node, Machine.{Mesh, commit, start, without_first, without_item}, State.NodeState, Waits.on_tick}
use Rattle.mesh_nodes.specs.Routes.{AreRowsOf, RowsFit}
use Rattle.mesh_nodes.proofs.{LearnsNothing.tick-learns_nothing, routes.Learnt.{found-row, network-rows-may, rows-stay_fit, same-rows_fit}, routes.Topologies.new-rows}
use Rattle.lsp_laws.specs.LearntLaw.{EveryNodeCanSearch}
use Rattle.lsp_laws.proofs.{nodes.Facts.MeshFacts, nodes.NodeRuns.{facts-start, facts-step, first_item-learns_nothing}}
use Rattle.mesh_nodes.proofs.LearnsNothing.{first-learns_nothing}

abbrev CanSearch : Network → Mesh → Type 0
CanSearch t s = (n : NodeId) → RowsFit (local_node t n) (s.nodes n.0)

after-commit : (t : Network) (s : Mesh) (n : NodeId) (a : Answer) →
    RowsFit (local_node t n) (changed (s.nodes n.0) a) → CanSearch t s → CanSearch t (commit s n.0 a)
after-commit t s n a here fit m = go (nat_eq m.0 n.0) refl
  where
    same-node : nat_eq m.0 n.0 ≡ true → n ≡ m
    same-node e = let is : n.0 ≡ m.0 = grind arith in λ i. record { 0 = is i }

    go : (b : Bool) → nat_eq m.0 n.0 ≡ b → RowsFit (local_node t m) (cond b (changed (s.nodes m.0) a) (s.nodes m.0))
    go true e = subst (λ k. RowsFit (local_node t k) (changed (s.nodes k.0) a)) (same-node e) here
    go false e = fit m

after-posted : (t : Network) (s : Mesh) (c : Command) → CanSearch t s → CanSearch t (posted t s c)
after-posted t s (Setup n from to protected both via backup) fit = fit
after-posted t s _ fit = fit

after-link : (t : Network) (n : NodeId) (s : NodeState) (k : LinkId) (o : Option LinkSpec) → IsTopology t →
    find_link t k ≡ o → AreRowsOf t s.learnt → RowsFit (local_node t n) s →
    RowsFit (local_node t n) (changed s (on_link (local_node t n) s o))
after-link t n s k None valid found rows fit = record { searchable = fit.searchable; others = fit.others }
after-link t n s k (Some l) valid found rows fit =
    rows-stay_fit (local_node t n) s (row_of l) fit
    (network-rows-may t n s (row_of l) valid rows (found-row t k l found))

search-step : (t : Network) (s : Mesh) (e : MeshEvent) → IsTopology t → MeshFacts t s → CanSearch t s →
    CanSearch t (step t s e)
search-step t s (Take d u) valid facts fit =
    let a = on_first (local_node t d) (s.nodes d.0) u (s.mail u.0 d.0) in
    after-commit t (without_first s u.0 d.0) d a
    (same-rows_fit (local_node t d) (s.nodes d.0) a
    (first-learns_nothing (local_node t d) (s.nodes d.0) u (s.mail u.0 d.0)) (fit d)) fit
search-step t s (Desk n) valid facts fit =
    let a = on_first_item (local_node t n) (s.nodes n.0) (s.desks n.0) in
    after-commit t (without_item s n.0) n a
    (same-rows_fit (local_node t n) (s.nodes n.0) a
    (first_item-learns_nothing (local_node t n) (s.nodes n.0) (s.desks n.0)) (fit n)) fit
search-step t s (Tick n) valid facts fit =
    let a = on_tick (local_node t n) (s.nodes n.0) in
    after-commit t s n a
    (same-rows_fit (local_node t n) (s.nodes n.0) a (tick-learns_nothing (local_node t n) (s.nodes n.0)) (fit n)) fit
search-step t s (Learn n k) valid facts fit =
    after-commit t s n (on_link (local_node t n) (s.nodes n.0) (find_link t k))
    (after-link t n (s.nodes n.0) k (find_link t k) valid refl (facts.learnt n.0) (fit n)) fit
search-step t s (Post c) valid facts fit = after-posted t s c fit

search-run : (t : Network) (s : Mesh) (events : List MeshEvent) → IsTopology t → MeshFacts t s → CanSearch t s →
    IsRun t s events → CanSearch t (after t s events)
search-run t s [] valid facts fit run = fit
search-run t s (e ∷ es) valid facts fit run =
    search-run t (step t s e) es valid (facts-step t s e run.0 facts) (search-step t s e valid facts fit) run.1

pub every_search : EveryNodeCanSearch
every_search t events n valid run =
    search-run t start events valid (facts-start t) (λ m. new-rows t m valid) run n

-- Every run comes to rest.
use Rattle.std.proofs.Common.{◌≡◌, ◌≤◌, ℕ, ◌+◌, Bool, true, false, cond, nat_eq, List, [], ◌∷◌, ◌++◌, refl, sym, subst, arith}
use Rattle.std.specs.Prelude.{Option, Some, None}
use Rattle.ason_base.specs.{Network.{IsTopology, Network, find_link, row_of}, declared.ids.NodeId.NodeId, declared.network.LinkSpec.LinkSpec, declared.commands.Command.Command, declared.commands.Command.TheVariants.{Setup, Release, Protect, Retry, Revert, Fail, Repair}, declared.commands.DeskItem.DeskItem, declared.messages.Msg.Msg}
use Rattle.ason_base.proofs.JoinedEnds.{same-node}
use Rattle.mesh_rules.specs.{declared.events.MeshEvent.MeshEvent, Changes.{Answer, changed, learns, nothing}, Events.{IsRun, after, has_first, is_enabled, on_first, on_first_item, posted, step}, KnownRows.{has_row, known_rows}, Learnt.on_link, LocalNodes.local_node, Machine.{Mesh, commit, start}, Waits.on_tick}
use Rattle.mesh_rules.specs.declared.events.MeshEvent.TheVariants as event
use Rattle.mesh_nodes.specs.FitNodes.{NodeFits}
use Rattle.mesh_nodes.proofs.{Cases.if_cases, Items.items-fit, Messages.messages-fit, NewNodes.{new-fits, new-place}, Ticks.tick-kept}
use Rattle.lsp_laws.proofs.{nodes.NodeRuns.{facts-start, facts-step}, hops.HopLaws.step_facts, hops.Run.{step_carries, step_routes}}
use Rattle.mesh_laws.specs.{Weights.FirstRoutes, Work.{Spot, Desk, Way, amount, WorkIsWithin}, RestLaw.{EveryRestIsQuiet, EveryRunEnds, EveryRunRests, work_added, items_handled}}
use Rattle.mesh_laws.proofs.{rest.Works.total-none, rest.Falls.{falls, RestFacts}}

-- What each node keeps fits

module _ (t : Network) (valid : IsTopology t) (s : Mesh) (o : FirstRoutes) (rest : RestFacts t s o) where
  at-node : (n : NodeId) (a : Answer) → NodeFits (local_node t n) (changed (s.nodes n.0) a) → (m : NodeId) →
      NodeFits (local_node t m) ((commit s n.0 a).nodes m.0)
  at-node n a fits m = go (nat_eq m.0 n.0) refl
    where
      go : (b : Bool) → nat_eq m.0 n.0 ≡ b → NodeFits (local_node t m) (cond b (changed (s.nodes m.0) a) (s.nodes m.0))
      go true e =
          let number : m.0 ≡ n.0 = grind arith in
          subst (λ (x : NodeId). NodeFits (local_node t x) (changed (s.nodes x.0) a)) (sym (same-node m n number)) fits
      go false e = rest.fits m

  first-fits : (d u : NodeId) (ms : List Msg) → has_first ms ≡ true →
      NodeFits (local_node t d) (changed (s.nodes d.0) (on_first (local_node t d) (s.nodes d.0) u ms))
  first-fits d u [] some = absurd (cc some)
  first-fits d u (m ∷ ms) some =
      (messages-fit (local_node t d) (s.nodes d.0) u m (new-place t d valid) (rest.fits d)).kept

  item-fits : (n : NodeId) (items : List DeskItem) → has_first items ≡ true →
      NodeFits (local_node t n) (changed (s.nodes n.0) (on_first_item (local_node t n) (s.nodes n.0) items))
  item-fits n [] some = absurd (cc some)
  item-fits n (i ∷ items) some =
      (items-fit (local_node t n) (s.nodes n.0) i (new-place t n valid) (rest.fits n)).kept

  link-fits : (n : NodeId) (found : Option LinkSpec) →
      NodeFits (local_node t n) (changed (s.nodes n.0) (on_link (local_node t n) (s.nodes n.0) found))
  link-fits n None = same nothing refl refl refl
    where
      same : (a : Answer) → a.legs ≡ [] → a.calls ≡ [] → a.numbers ≡ None →
          NodeFits (local_node t n) (changed (s.nodes n.0) a)
      same a legs calls numbers = rw (legs, calls, numbers) (record {
        legs = (rest.fits n).legs;
        calls = (rest.fits n).calls;
        first = (rest.fits n).first;
        numbers = (rest.fits n).numbers;
      })
  link-fits n (Some l) =
      if_cases (λ (a : Answer). NodeFits (local_node t n) (changed (s.nodes n.0) a))
      (has_row (known_rows (local_node t n) (s.nodes n.0)) l.id) nothing (learns (row_of l))
      (λ h. record {
        legs = (rest.fits n).legs;
        calls = (rest.fits n).calls;
        first = (rest.fits n).first;
        numbers = (rest.fits n).numbers;
      })
      (λ h. record {
        legs = (rest.fits n).legs;
        calls = (rest.fits n).calls;
        first = (rest.fits n).first;
        numbers = (rest.fits n).numbers;
      })

  posted-fits : (c : Command) (n : NodeId) → NodeFits (local_node t n) ((posted t s c).nodes n.0)
  posted-fits (Setup k from to protected both via backup) n = rest.fits n
  posted-fits (Release k from) n = rest.fits n
  posted-fits (Protect k from) n = rest.fits n
  posted-fits (Retry k from) n = rest.fits n
  posted-fits (Revert k from) n = rest.fits n
  posted-fits (Fail g) n = rest.fits n
  posted-fits (Repair g) n = rest.fits n

  all-fit : (e : MeshEvent) → is_enabled t s e ≡ true → (m : NodeId) →
      NodeFits (local_node t m) ((step t s e).nodes m.0)
  all-fit (event.Take d u) enabled m = at-node d (on_first (local_node t d) (s.nodes d.0) u (s.mail u.0 d.0))
      (first-fits d u (s.mail u.0 d.0) enabled) m
  all-fit (event.Desk n) enabled m = at-node n (on_first_item (local_node t n) (s.nodes n.0) (s.desks n.0))
      (item-fits n (s.desks n.0) enabled) m
  all-fit (event.Tick n) enabled m = at-node n (on_tick (local_node t n) (s.nodes n.0))
      (tick-kept (local_node t n) (s.nodes n.0) (rest.fits n)) m
  all-fit (event.Learn n k) enabled m = at-node n (on_link (local_node t n) (s.nodes n.0) (find_link t k))
      (link-fits n (find_link t k)) m
  all-fit (event.Post c) enabled m = posted-fits c m

  -- The facts on which the weights rest stand after each enabled event.
  pub rest-step : (e : MeshEvent) (w : ℕ) → WorkIsWithin o s w → is_enabled t s e ≡ true →
      RestFacts t (step t s e) (step_routes t s e o)
  rest-step e w within enabled = record {
    facts = facts-step t s e enabled rest.facts;
    carried = step_carries t s e o enabled (step_facts t s rest.facts) rest.carried;
    short = (falls t s o rest w within e enabled).short;
    fits = all-fit e enabled;
  }

-- The law

start-rests : (t : Network) → RestFacts t start (λ l. None)
start-rests t = record {
  facts = facts-start t;
  carried = record {
    follows = λ l. record { legs = λ n. refl; mail = λ a b. refl; notices = λ a b. refl };
    given = λ n k c found. absurd (cc found);
  };
  short = λ l route is. absurd (cc is);
  fits = λ n. new-fits (local_node t n);
}

start-within : WorkIsWithin (λ l. None) start 0
start-within ps apart = let z = total-none (amount (λ l. None) start) ps none in omega arith
  where
    none : (p : Spot) → amount (λ l. None) start p ≡ 0
    none (Desk n) = refl
    none (Way a b) = refl

rests-from : (t : Network) → IsTopology t → (s : Mesh) (o : FirstRoutes) (events : List MeshEvent) (w : ℕ) →
    IsRun t s events →
    RestFacts t s o → WorkIsWithin o s w → items_handled events ≤ w + work_added t events
rests-from t valid s o [] w run rest within = omega arith
rests-from t valid s o (e ∷ es) w run rest within =
    let one = (falls t s o rest w within e run.0).lightens in
    let less = one.falls in
    let more = rests-from t valid (step t s e) (step_routes t s e o) es one.left run.1
    (rest-step t valid s o rest e w within run.0) one.within in
    omega arith

-- Every run is paid for by its posts and its ticks.
pub every_run_rests : EveryRunRests
every_run_rests t events valid run =
    let h = rests-from t valid start (λ l. None) events 0 run (start-rests t) start-within in omega arith

-- One run after another

handled-both : (events later : List MeshEvent) →
    items_handled (events ++ later) ≡ items_handled events + items_handled later
handled-both [] later = omega arith
handled-both (e ∷ es) later = let h = handled-both es later in omega (arith, h)

added-both : (t : Network) (events later : List MeshEvent) →
    work_added t (events ++ later) ≡ work_added t events + work_added t later
added-both t [] later = omega arith
added-both t (e ∷ es) later = let h = added-both t es later in omega (arith, h)

-- what goes on where a run leads is a run together with it
runs-on : (t : Network) (s : Mesh) (events later : List MeshEvent) → IsRun t s events →
    IsRun t (after t s events) later →
    IsRun t s (events ++ later)
runs-on t s [] later run more = more
runs-on t s (e ∷ events) later run more = (run.0, runs-on t (step t s e) events later run.1 more)

-- After a run only so many more Takes and Desks can follow.
pub every_run_ends : EveryRunEnds
every_run_ends t events valid run later more none =
    let all = every_run_rests t (events ++ later) valid (runs-on t start events later run more) in
    let a = handled-both events later in
    let b = added-both t events later in
    omega (arith, all, a, b, none)

no-first : {X : Type 0} (xs : List X) → has_first xs ≡ false → xs ≡ []
no-first [] none = refl
no-first (x ∷ xs) none = absurd (cc none)

-- A mesh in which no Take and no Desk is enabled is quiet.
pub every_rest_quiet : EveryRestIsQuiet
every_rest_quiet t s rest = record {
  desks = λ n. no-first (s.desks n) (rest (event.Desk (record { 0 = n })) refl);
  mail = λ u d. no-first (s.mail u d) (rest (event.Take (record { 0 = d }) (record { 0 = u })) refl);
}

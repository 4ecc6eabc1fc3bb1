-- Two links between two nodes. A call over link 1 to which no backup route was given gets a backup over link 2, which
-- its ingress finds; where there is link 1 alone, it gets none.
use Rattle.std.proofs.Common.{◌≡◌, ◌<◌, ◌≤◌, ◌⊎◌, inl, inr, ℕ, zero, suc, true, false, List, [], ◌∷◌, ◌++◌, refl, sym, ap, subst, ◌∙◌, arith, Contains}
use Rattle.std.specs.Prelude.{map, Option, Some, None, IsTrue}
use Rattle.ason_base.specs.Labels as labels
use Rattle.ason_base.specs.{Network.{IsTopology, Network, is_node_at, row_of}, Risks.{HasRisk, risks_of}, Walks.{IsAtMost, IsBackup, IsLeast, IsWalk, NoLink, NoNode, links_of}, declared.calls.CallState.CallState, declared.calls.CallState.TheVariants.{Bare, Guarded}, declared.calls.Cause.Cause, declared.calls.Cause.TheVariants.{NoBackup, Unset}, declared.commands.Command.TheVariants.Setup, declared.ids.Lsp.Lsp, declared.network.LinkSpec.LinkSpec, declared.network.TeRow.TeRow, declared.risks.Risk.Risk, declared.risks.Risk.TheVariants.{Link, Srlg}, declared.steps.Step.Step}
use Rattle.ason_base.proofs.Members.{contains-cases, contains-head, contains-tail, contains-none}
use Rattle.mesh_rules.specs.{declared.events.MeshEvent.MeshEvent, declared.events.MeshEvent.TheVariants.Post, Events.after, LeastRoutes.{Trip, least_backup}, Machine.start}
use Rattle.mesh_nodes.proofs.{routes.Backups.{least_backup-least, no_backup-none}, routes.Topologies.new-rows}
use Rattle.mesh_examples.proofs.Scene.{call, desk, link_spec, link, lsp, node, step_over, spec, takes_from, takes_each}

-- The networks

-- these links between nodes 1 and 2
abbrev between : List LinkSpec → Network
between links = record { wait = 0; nodes = spec 1 false ∷ spec 2 false ∷ []; links = links }

abbrev row : ℕ → TeRow
row k = row_of (link_spec k 1 2 1 [])

abbrev one_link : Network
one_link = between (link_spec 1 1 2 1 [] ∷ [])

abbrev two_links : Network
two_links = between (link_spec 1 1 2 1 [] ∷ link_spec 2 1 2 1 [] ∷ [])

are-nodes : (links : List LinkSpec) (k : ℕ) → k < 2 → IsTrue (is_node_at (between links).nodes k)
are-nodes links zero below = refl
are-nodes links (suc zero) below = refl
are-nodes links (suc (suc k)) below = absurd (omega arith)

one-valid : IsTopology one_link
one-valid = record {
  count = refl;
  nodes = are-nodes one_link.links;
  links = elim [ zero ↦ λ below. refl | suc k ↦ λ below. absurd (omega arith) ];
}

two-valid : IsTopology two_links
two-valid = record {
  count = refl;
  nodes = are-nodes two_links.links;
  links = elim [
    | zero ↦ λ below. refl
    | suc zero ↦ λ below. refl
    | suc (suc k) ↦ λ below. absurd (omega arith)
  ];
}

-- Walks from node 1 to node 2

abbrev primary : List Step
primary = step_over 1 1 ∷ []

-- where a walk begins: over which row
record Begins (rows : List TeRow) (route : List Step) (cost : ℕ) : Type 0 where
  step : Step
  rest : List Step
  row : TeRow
  is : route ≡ step ∷ rest
  known : Contains rows row
  link : step.link ≡ row.link
  cost_is : row.metric ≤ cost

begins : (rows : List TeRow) (route : List Step) (cost : ℕ) →
    IsWalk rows NoLink NoNode (node 1) (node 2) route cost → Begins rows route cost
begins rows [] cost walk = let same : (node 1).0 ≡ (node 2).0 = ap (λ n. n.0) walk.0 in absurd (omega arith)
begins rows (s ∷ steps) cost walk = record {
  step = s;
  rest = steps;
  row = walk.0;
  is = refl;
  known = walk.3.known;
  link = walk.3.link;
  cost_is = (let sum = walk.5 in omega arith);
}

-- a walk that begins over link 1 has a risk of the primary
over_first-shares : (more : List TeRow) (route : List Step) (cost : ℕ) →
    IsBackup (row 1 ∷ more) primary (node 1) (node 2) route cost →
    (s : Step) (rest : List Step) → route ≡ s ∷ rest → s.link ≡ link 1 → ⊥
over_first-shares more route cost backup s rest is here =
    let mine : HasRisk (row 1 ∷ more) (s ∷ rest) (Link (link 1)) =
    (row 1, s, contains-head (row 1) more, contains-head s rest, sym here, contains-head (Link (link 1)) []) in
    let theirs : HasRisk (row 1 ∷ more) primary (Link (link 1)) = (
      row 1,
      step_over 1 1,
      contains-head (row 1) more,
      contains-head (step_over 1 1) [],
      refl,
      contains-head (Link (link 1)) [],
    ) in
    backup.risks (Link (link 1)) (subst (λ steps. HasRisk (row 1 ∷ more) steps (Link (link 1))) (sym is) mine) theirs

-- One link

no-backup : least_backup (row 1 ∷ []) primary (node 1) (node 2) ≡ None
no-backup = (no_backup-none (row 1 ∷ []) primary (node 1) (node 2)
    (new-rows one_link (node 1) one-valid).searchable).1 none
  where
    none : (route : List Step) (cost : ℕ) → ¬ IsBackup (row 1 ∷ []) primary (node 1) (node 2) route cost
    none route cost backup =
        let b = begins (row 1 ∷ []) route cost backup.walk in
        elim (contains-cases (row 1) b.row [] b.known) [
          | inl one ↦ over_first-shares [] route cost backup b.step b.rest b.is
              (b.link ∙ sym (ap (λ (r : TeRow). r.link) one))
          | inr other ↦ absurd (contains-none b.row other)
        ]

-- Two links

abbrev rows : List TeRow
rows = row 1 ∷ row 2 ∷ []

-- which row it is
is-row : (r : TeRow) → Contains rows r → (row 1 ≡ r) ⊎ (row 2 ≡ r)
is-row r there = elim (contains-cases (row 1) r (row 2 ∷ []) there) [
  | inl first ↦ inl first
  | inr later ↦ elim (contains-cases (row 2) r [] later) [
    | inl second ↦ inr second
    | inr none ↦ absurd (contains-none r none)
  ]
]

abbrev number : Risk → ℕ
number (Srlg s) = s
number (Link k) = k.0

-- the one risk of a row is its link
row-risk : (r : TeRow) (x : Risk) → Contains rows r → Contains (risks_of r) x → Link r.link ≡ x
row-risk r x there here = elim (is-row r there) [
  | inl first ↦ of 1 first
  | inr second ↦ of 2 second
]
  where
    of : (k : ℕ) → row k ≡ r → Link r.link ≡ x
    of k is =
        let here' : Contains (Link (link k) ∷ []) x = subst (λ (q : TeRow). Contains (risks_of q) x) (sym is) here in
        let link_is : Link (link k) ≡ Link r.link = ap (λ (q : TeRow). Link q.link) is in
        elim (contains-cases (Link (link k)) x [] here') [
          | inl e ↦ sym link_is ∙ e
          | inr none ↦ absurd (contains-none x none)
        ]

-- the one risk of a route of one step is its link
route-risk : (k : ℕ) (x : Risk) → HasRisk rows (step_over 1 k ∷ []) x → Link (link k) ≡ x
route-risk k x has = elim (contains-cases (step_over 1 k) has.1 [] has.3) [
  | inl is ↦ ap (λ (s : Step). Link s.link) is ∙ ap Link (sym has.4) ∙ row-risk has.0 x has.2 has.5
  | inr none ↦ absurd (contains-none has.1 none)
]

abbrev second_link : Trip
second_link = record { steps = step_over 1 2 ∷ []; cost = 1 }

second-allowed : IsBackup rows primary (node 1) (node 2) second_link.steps second_link.cost
second-allowed = record {
  walk = (
    row 2,
    node 2,
    0,
    record {
      known = contains-tail (row 1) (row 2) (row 2 ∷ []) (contains-head (row 2) []);
      sender = refl;
      link = refl;
      joins = inl (refl, refl);
      link_allowed = λ banned. banned;
      node_allowed = λ banned. banned;
    },
    (refl, refl),
    refl,
  );
  risks = λ x mine theirs.
      let one : (link 2).0 ≡ (link 1).0 = ap number (route-risk 2 x mine ∙ sym (route-risk 1 x theirs)) in
      absurd (omega arith);
  nodes = λ n mine theirs. elim (contains-cases (step_over 1 2) mine.0 [] mine.1) [
    | inl is ↦ mine.3 (sym mine.2 ∙ sym (ap (λ (s : Step). s.node) is))
    | inr none ↦ absurd (contains-none mine.0 none)
  ];
}

-- each backup begins over link 2
over-second : (route : List Step) (cost : ℕ) → IsBackup rows primary (node 1) (node 2) route cost →
    (b : Begins rows route cost) → row 2 ≡ b.row
over-second route cost backup b = elim (is-row b.row b.known) [
  | inl first ↦ absurd (over_first-shares (row 2 ∷ []) route cost backup b.step b.rest b.is
      (b.link ∙ sym (ap (λ (r : TeRow). r.link) first)))
  | inr second ↦ second
]

second-least : IsLeast (IsBackup rows primary (node 1) (node 2)) second_link.steps second_link.cost
second-least = record {
  allowed = second-allowed;
  least = λ route cost backup.
      let b = begins rows route cost backup.walk in
      let metric : (row 2).metric ≡ b.row.metric = ap (λ (r : TeRow). r.metric) (over-second route cost backup b) in
      let most = b.cost_is in
      omega arith;
  first = λ route backup.
      let b = begins rows route 1 backup.walk in
      let is : link 2 ≡ b.step.link = ap (λ (r : TeRow). r.link) (over-second route 1 backup b) ∙ sym b.link in
      subst (λ steps. IsAtMost (link 2 ∷ []) (links_of steps)) (sym b.is) (inr (is, tt));
}

found : least_backup rows primary (node 1) (node 2) ≡ Some second_link
found = (least_backup-least rows primary (node 1) (node 2) second_link
    (new-rows two_links (node 1) two-valid).searchable).1 second-least

-- The call

abbrev connected : List MeshEvent
connected =
    Post (Setup (call 1) (node 1) (node 2) true false (Some primary) None)
    ∷ desk 1
    ∷ takes_each ((2, 1) ∷ (1, 2) ∷ [])

-- the state, the cause and the backup LSP of each call of node 1
abbrev calls : Network → List MeshEvent → List (CallState × Cause × Option Lsp)
calls t events = map (λ c. (c.state, c.cause, c.back)) ((after t start events).nodes 1).calls

unbacked : calls one_link connected ≡ (Bare, NoBackup, None) ∷ []
unfolding labels.numbers_from
unbacked = rw no-backup refl

guarded : calls two_links (connected ++ takes_from 2 1 ∷ takes_from 1 2 ∷ []) ≡ (Guarded, Unset, Some (lsp 1 1 2)) ∷ []
unfolding labels.numbers_from
guarded = rw found refl

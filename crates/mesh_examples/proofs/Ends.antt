-- What tests that are worked out tell of a run: that it is one, that its network is a topology, that nothing waits at its
-- end, and what becomes of the call that a failure hits.
use Rattle.std.proofs.{Common.{◌≡◌, ◌<◌, ℕ, zero, suc, Bool, true, false, not, nat_eq, List, [], ◌∷◌, length, refl, subst, arith}, lemmas.List.Elements.recursion_from_All, lemmas.Bool.not-true}
use Rattle.std.specs.{Prelude.{◌&&◌, ◌||◌, Some, IsTrue}, List.{AllByRecursion, list_all, list_any}}
use Rattle.ason_base.specs.{Network.{IsTopology, Network, are_ends, is_count, is_link_at, is_node_at, is_node_id}, declared.commands.Group.Group, declared.ids.NodeId.NodeId, declared.network.LinkSpec.LinkSpec, declared.network.NodeSpec.NodeSpec}
use Rattle.ason_base.proofs.Bools.{and-left, and-right}
use Rattle.mesh_rules.specs.{declared.events.MeshEvent.MeshEvent, Events.{IsRun, after, is_enabled, step}, Machine.{Mesh, start}, Quiet.IsQuiet}
use Rattle.mesh_laws.specs.{AloneLaw.{Alone, FailsOnly}, HomeLaw.{StaysAtHome, are_neighbours}, RestorationLaw.{IsRestored, is_guarded, is_lsp_hit}}
use Rattle.mesh_laws.proofs.{alone.Law.run_starts_calm, home.Law.every_run_at_home, restoration.Law.every_hit_call}
use Rattle.mesh_examples.proofs.Scene.{all_enabled, lsp}

-- a run, by the test of its events
pub runs : (t : Network) (s : Mesh) (es : List MeshEvent) → all_enabled t s es ≡ true → IsRun t s es
runs t s [] all = tt
runs t s (e ∷ es) all =
    (and-left (is_enabled t s e) _ all, runs t (step t s e) es (and-right (is_enabled t s e) _ all))

-- what holds where a test is passed holds of all, where all pass
each-so : {X : Type 0} (p : X → Bool) (P : X → Type 0) (xs : List X) → list_all p xs ≡ true →
    AllByRecursion (λ x. p x ≡ true → P x) xs → AllByRecursion P xs
each-so p P [] all each = tt
each-so p P (x ∷ xs) all each = (each.0 (and-left (p x) _ all), each-so p P xs (and-right (p x) _ all) each.1)

-- Topologies

abbrev pub all_below : (ℕ → Bool) → ℕ → Bool
all_below p zero = true
all_below p (suc n) = p n && all_below p n

each-below : (p : ℕ → Bool) (n : ℕ) → all_below p n ≡ true → (k : ℕ) → k < n → p k ≡ true
each-below p zero all k below = absurd (omega arith)
each-below p (suc n) all k below = go (nat_eq k n) refl (λ less. each-below p n (and-right (p n) _ all) k less)
  where
    go : (b : Bool) → nat_eq k n ≡ b → (k < n → p k ≡ true) → p k ≡ true
    go true e later = let is : n ≡ k = grind arith in subst (λ x. p x ≡ true) is (and-left (p n) _ all)
    go false e later = later (grind arith)

abbrev pub is_topology : Network → Bool
is_topology t =
    is_count t.nodes t.links
    && (all_below (is_node_at t.nodes) (length t.nodes) && all_below (is_link_at t.nodes t.links) (length t.links))

-- a topology, by the test of its nodes and its links
pub topology : (t : Network) → is_topology t ≡ true → IsTopology t
topology t all =
    let parts = and-right (is_count t.nodes t.links) _ all in
    record {
      count = and-left (is_count t.nodes t.links) _ all;
      nodes = each-below (is_node_at t.nodes) (length t.nodes)
          (and-left (all_below (is_node_at t.nodes) (length t.nodes)) _ parts);
      links = each-below (is_link_at t.nodes t.links) (length t.links)
          (and-right (all_below (is_node_at t.nodes) (length t.nodes)) _ parts);
    }

-- Rest

abbrev pub is_empty : {X : Type 0} → List X → Bool
is_empty [] = true
is_empty (x ∷ xs) = false

empty : {X : Type 0} (xs : List X) → is_empty xs ≡ true → xs ≡ []
empty [] e = refl
empty (x ∷ xs) e = absurd (cc e)

abbrev pub are_clear : Mesh → List NodeSpec → Bool
are_clear s [] = true
are_clear s (n ∷ nodes) = is_empty (s.desks n.id.0) && are_clear s nodes

abbrev pub are_silent : Mesh → List LinkSpec → Bool
are_silent s [] = true
are_silent s (l ∷ links) =
    is_empty (s.mail l.low.0 l.high.0) && (is_empty (s.mail l.high.0 l.low.0) && are_silent s links)

-- the desks of the network's nodes are empty, and so are the lists of both directions of its links
abbrev pub is_still : Network → Mesh → Bool
is_still t s = are_clear s t.nodes && are_silent s t.links

clear-desk : (s : Mesh) (n : NodeId) (nodes : List NodeSpec) → are_clear s nodes ≡ true →
    is_node_id nodes n ≡ true → s.desks n.0 ≡ []
clear-desk s n [] all there = absurd (cc there)
clear-desk s n (m ∷ nodes) all there =
    go (nat_eq m.id.0 n.0) refl there
    (clear-desk s n nodes (and-right (is_empty (s.desks m.id.0)) _ all))
  where
    go : (b : Bool) → nat_eq m.id.0 n.0 ≡ b → (b || is_node_id nodes n) ≡ true →
        (is_node_id nodes n ≡ true → s.desks n.0 ≡ []) → s.desks n.0 ≡ []
    go true e there later =
        let is : m.id.0 ≡ n.0 = grind arith in
        subst (λ x. s.desks x ≡ []) is (empty (s.desks m.id.0) (and-left (is_empty (s.desks m.id.0)) _ all))
    go false e there later = later there

silent-way : (s : Mesh) (u d : NodeId) (links : List LinkSpec) → are_silent s links ≡ true →
    list_any (λ l. are_ends l.low l.high u d) links ≡ true → s.mail u.0 d.0 ≡ []
silent-way s u d [] all there = absurd (cc there)
silent-way s u d (l ∷ links) all there =
    go (nat_eq l.low.0 u.0) (nat_eq l.high.0 d.0) (nat_eq l.low.0 d.0) (nat_eq l.high.0 u.0) refl refl refl refl there
    (silent-way s u d links (and-right (is_empty (s.mail l.high.0 l.low.0)) _ others))
  where
    others : (is_empty (s.mail l.high.0 l.low.0) && are_silent s links) ≡ true
    others = and-right (is_empty (s.mail l.low.0 l.high.0)) _ all

    up : s.mail l.low.0 l.high.0 ≡ []
    up = empty (s.mail l.low.0 l.high.0) (and-left (is_empty (s.mail l.low.0 l.high.0)) _ all)

    down : s.mail l.high.0 l.low.0 ≡ []
    down = empty (s.mail l.high.0 l.low.0) (and-left (is_empty (s.mail l.high.0 l.low.0)) _ others)

    is-way : (a b : ℕ) → nat_eq a u.0 ≡ true → nat_eq b d.0 ≡ true → s.mail a b ≡ [] → s.mail u.0 d.0 ≡ []
    is-way a b p q none =
        let from : a ≡ u.0 = grind arith in
        let to : b ≡ d.0 = grind arith in
        subst (λ x. s.mail x d.0 ≡ []) from (subst (λ x. s.mail a x ≡ []) to none)

    go : (a b c e : Bool) → nat_eq l.low.0 u.0 ≡ a → nat_eq l.high.0 d.0 ≡ b → nat_eq l.low.0 d.0 ≡ c →
        nat_eq l.high.0 u.0 ≡ e →
        (((a && b) || (c && e)) || list_any (λ k. are_ends k.low k.high u d) links) ≡ true →
        (list_any (λ k. are_ends k.low k.high u d) links ≡ true → s.mail u.0 d.0 ≡ []) → s.mail u.0 d.0 ≡ []
    go true true c e p q r z there later = is-way l.low.0 l.high.0 p q up
    go true false true true p q r z there later = is-way l.high.0 l.low.0 z r down
    go true false true false p q r z there later = later there
    go true false false e p q r z there later = later there
    go false b true true p q r z there later = is-way l.high.0 l.low.0 z r down
    go false b true false p q r z there later = later there
    go false b false e p q r z there later = later there

still-quiet : (t : Network) (s : Mesh) → StaysAtHome t s → is_still t s ≡ true → IsQuiet s
still-quiet t s home still = record {
  desks = λ n. desk (record { 0 = n }) (is_node_id t.nodes (record { 0 = n })) refl;
  mail = λ u d. way (record { 0 = u }) (record { 0 = d }) (are_neighbours t (record { 0 = u }) (record { 0 = d })) refl;
}
  where
    desk : (n : NodeId) (b : Bool) → is_node_id t.nodes n ≡ b → s.desks n.0 ≡ []
    desk n true e = clear-desk s n t.nodes (and-left (are_clear s t.nodes) _ still) e
    desk n false e = home.desks n e

    way : (u d : NodeId) (b : Bool) → are_neighbours t u d ≡ b → s.mail u.0 d.0 ≡ []
    way u d true e =
        let near = and-right (is_node_id t.nodes u && is_node_id t.nodes d && not (nat_eq u.0 d.0)) _ e in
        silent-way s u d t.links (and-right (are_clear s t.nodes) _ still) near
    way u d false e = home.mail u d e

-- Over a topology nothing waits anywhere where nothing waits at the network's nodes and over its links.
pub quiet : (t : Network) (events : List MeshEvent) → IsTopology t → IsRun t start events →
    is_still t (after t start events) ≡ true → IsQuiet (after t start events)
quiet t events valid run still =
    still-quiet t (after t start events) (every_run_at_home t events valid run) still

-- Restored calls

-- the network is a topology, each event is enabled, nothing waits at the end, each call of this node is guarded, the
-- first one's working LSP is hit, and its backup isn't
abbrev pub ends_hit : Network → List MeshEvent → ℕ → Bool
ends_hit t events n =
    is_topology t
    && (all_enabled t start events
    && (is_still t (after t start events)
    && (list_all (is_guarded ((after t start events).nodes n)) ((after t start events).nodes n).calls
    && (is_lsp_hit t events (Some (lsp n 1 1)) && not (is_lsp_hit t events (Some (lsp n 1 2)))))))

-- One group alone failed, so by the law of one group each of these calls is restored, though one is hit.
pub record Restores (t : Network) (events : List MeshEvent) (g : Group) (n : ℕ) : Type 0 where
  pub alone : Alone t events g
  pub quiet : IsQuiet (after t start events)
  pub hit : is_lsp_hit t events (Some (lsp n 1 1)) ≡ true
  pub up : is_lsp_hit t events (Some (lsp n 1 2)) ≡ false
  pub restored : AllByRecursion (IsRestored t events) ((after t start events).nodes n).calls

-- A run whose end passes the test restores its calls.
pub restores : (t : Network) (events : List MeshEvent) (g : Group) (n : ℕ) → AllByRecursion (FailsOnly g) events →
    ends_hit t events n ≡ true → Restores t events g n
restores t events g n only all =
    let a = and-right (is_topology t) _ all in
    let b = and-right (all_enabled t start events) _ a in
    let c = and-right (is_still t (after t start events)) _ b in
    let d = and-right (list_all (is_guarded ((after t start events).nodes n)) ((after t start events).nodes n).calls) _
    c in
    let valid = topology t (and-left (is_topology t) _ all) in
    let run = runs t start events (and-left (all_enabled t start events) _ a) in
    let rest = quiet t events valid run (and-left (is_still t (after t start events)) _ b) in
    let alone : Alone t events g = record {
      before = [];
      since = events;
      parts = refl;
      calm = run_starts_calm;
      only = only;
    } in
    record {
      alone = alone;
      quiet = rest;
      hit = and-left (is_lsp_hit t events (Some (lsp n 1 1))) _ d;
      up = not-true (is_lsp_hit t events (Some (lsp n 1 2))) (and-right (is_lsp_hit t events (Some (lsp n 1 1))) _ d);
      restored = each-so (λ c. is_guarded ((after t start events).nodes n) c) (IsRestored t events)
          ((after t start events).nodes n).calls
          (and-left (list_all (is_guarded ((after t start events).nodes n)) ((after t start events).nodes n).calls) _ c)
          (recursion_from_All (λ c. IsTrue (is_guarded ((after t start events).nodes n) c) → IsRestored t events c)
          ((after t start events).nodes n).calls (every_hit_call t events valid run g alone rest n));
    }

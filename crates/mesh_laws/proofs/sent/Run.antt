-- Over a run the labels that a node sends, or is about to be given, stay lawful.
use Rattle.std.proofs.Common.{◌≡◌, ℕ, true, false, List, [], ◌∷◌, ◌++◌, refl, sym, subst}
use Rattle.std.specs.Prelude.{None}
use Rattle.ason_base.specs.{Network.{Network, find_link}, declared.ids.Fibre.Fibre, declared.ids.Lsp.Lsp, declared.messages.Msg.Msg}
use Rattle.ason_base.proofs.Numbers.{self-number}
use Rattle.mesh_rules.specs.{declared.events.MeshEvent.MeshEvent, declared.events.MeshEvent.TheVariants.{Take, Desk, Tick, Learn, Post}, Events.{IsRun, after, is_enabled, on_first_item, or_route, step}, Learnt.on_link, LocalNodes.local_node, Machine.{Mesh, start, without_item}, Waits.on_tick}
use Rattle.lsp_laws.proofs.{hops.HopLaws.{carried, step_facts}, hops.Planned.{Routes, or_assoc, or_none}, hops.Run.{Carried, step_carries, step_routes}, nodes.Facts.MeshFacts, nodes.NodeRuns.{facts-start, facts-step}}
use Rattle.mesh_laws.specs.HeardLaw.{heard, primary_at, primary_of}
use Rattle.mesh_laws.proofs.{sent.ItemsHear.ticks-calm, sent.May.no_gift, sent.Told.told_now, sent.Sound.{Sound, first_item-calm, first_sound, grows, link-calm, posted_sound, quiet_sound}}

-- each event keeps all of it
pub sound-step : (t : Network) (o w : Routes) (s : Mesh) (e : MeshEvent) → is_enabled t s e ≡ true → Sound t o w s →
    Sound t (step_routes t s e o) (told_now (step t s e) w) (step t s e)
sound-step t o w s e enabled now = go e enabled carried facts
  where
    carried : Carried t (step t s e) (step_routes t s e o)
    carried = step_carries t s e o enabled (step_facts t s now.facts) now.carried

    facts : MeshFacts t (step t s e)
    facts = facts-step t s e enabled now.facts

    go : (e : MeshEvent) → is_enabled t s e ≡ true → Carried t (step t s e) (step_routes t s e o) →
        MeshFacts t (step t s e) → Sound t (step_routes t s e o) (told_now (step t s e) w) (step t s e)
    go (Take d u) enabled carried facts =
        first_sound t o w s now d u (step_routes t s (Take d u) o) (s.mail u.0 d.0) refl enabled
        (grows t o w s now (Take d u)) carried facts
    go (Desk n) enabled carried facts =
        quiet_sound t o w s now (without_item s n.0).desks n
        (on_first_item (local_node t n) (s.nodes n.0) (s.desks n.0)) (step_routes t s (Desk n) o)
        (first_item-calm t n (s.nodes n.0) (now.facts.node n.0) (s.desks n.0)) (grows t o w s now (Desk n)) carried
        facts
    go (Tick n) enabled carried facts =
        quiet_sound t o w s now s.desks n (on_tick (local_node t n) (s.nodes n.0)) (step_routes t s (Tick n) o)
        (ticks-calm (local_node t n) (s.nodes n.0) no_gift (now.facts.node n.0)) (grows t o w s now (Tick n)) carried
        facts
    go (Learn n k) enabled carried facts =
        quiet_sound t o w s now s.desks n (on_link (local_node t n) (s.nodes n.0) (find_link t k))
        (step_routes t s (Learn n k) o) (link-calm (local_node t n) (s.nodes n.0) (find_link t k))
        (grows t o w s now (Learn n k)) carried facts
    go (Post c) enabled carried facts =
        posted_sound t o w s now c (step_routes t s (Post c) o) (grows t o w s now (Post c)) carried facts

-- A run

-- the same primaries, written otherwise
same-told : (t : Network) (o w w' : Routes) (s : Mesh) → ((l : Lsp) → w l ≡ w' l) → Sound t o w s → Sound t o w' s
same-told t o w w' s self-number now = let all : w ≡ w' = λ i l. self-number l i in subst (λ v. Sound t o v s) all now

sound-run : (t : Network) (o w : Routes) (s : Mesh) (events : List MeshEvent) → IsRun t s events → Sound t o w s →
    (o' : Routes) × Sound t o' (λ l. or_route (w l) (primary_of t s events l)) (after t s events)
sound-run t o w s [] run now =
    (o, same-told t o w (λ l. or_route (w l) None) s (λ l. sym (or_none (w l))) now)
sound-run t o w s (e ∷ es) run now =
    let more = sound-run t (step_routes t s e o) (told_now (step t s e) w) (step t s e) es run.1
    (sound-step t o w s e run.0 now) in (
      more.0,
      same-told t more.0 _ (λ l. or_route (w l) (primary_of t s (e ∷ es) l)) (after t (step t s e) es)
          (λ l. or_assoc (w l) (primary_at (step t s e) l) (primary_of t (step t s e) es l)) more.1,
    )

sound-start : (t : Network) → Sound t (λ l. None) (λ l. None) start
sound-start t = record {
  carried = carried t [] tt;
  facts = facts-start t;
  told = record { legs = λ l n g here. absurd (cc here); begun = λ l none. refl };
  lawful = λ f x u d apart from to before since is l m this that. absurd (never f x l before since is this);
  crossing = λ f n k l m g h other at_g at_h label. (let found = at_g.found in absurd (cc found));
}
  where
    never : (f : Fibre) (x : ℕ) (l : Lsp) (before since : List Msg) → before ++ since ≡ [] →
        heard f x l before false ≡ true → ⊥
    never f x l [] since is h = cc h
    never f x l (m ∷ before) since is h = cc is

-- in each state of each run
pub sound : (t : Network) (events : List MeshEvent) → IsRun t start events →
    (o : Routes) × Sound t o (primary_of t start events) (after t start events)
sound t events run = sound-run t (λ l. None) (λ l. None) start events run (sound-start t)

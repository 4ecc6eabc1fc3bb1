-- Over each event messages stay between neighbours, and items on nodes' desks.
use Rattle.std.proofs.{Common.{◌≡◌, ℕ, Bool, true, false, cond, nat_eq, List, [], ◌∷◌, ◌++◌, drop, refl, sym, ap, ◌∙◌, subst, append-nil, arith}, ByRecursion.All-append}
use Rattle.std.specs.{Prelude.{◌&&◌, Option, Some, None}, List.AllByRecursion}
use Rattle.ason_base.specs.{Network.{IsTopology, Network, find_link, is_node_id, row_of}, declared.ids.NodeId.NodeId, declared.network.LinkSpec.LinkSpec, declared.commands.Command.Command, declared.commands.Command.TheVariants.{Setup, Release, Protect, Retry, Revert, Fail, Repair}, declared.commands.DeskItem.DeskItem, declared.commands.DeskItem.TheVariants.Order, declared.commands.Group.Group, declared.messages.Msg.Msg, declared.tables.CallRec.CallRec}
use Rattle.ason_base.proofs.{Bools.and-left, JoinedEnds.same-node}
use Rattle.mesh_rules.specs.{declared.events.MeshEvent.MeshEvent, declared.events.MeshEvent.TheVariants.{Take, Desk, Tick, Learn, Post}, Changes.{Answer, changed, learns, nothing}, Commands.is_valid, Events.{IsRun, after, has_first, is_enabled, on_first, on_first_item, posted, step}, Failures.{all_news, with_failed, with_group, without_group}, KnownRows.{has_row, known_rows}, Learnt.on_link, LocalNodes.{LocalNode, local_node}, Machine.{Mesh, commit, sent_to, start, with_item, without_first, without_item}, State.NodeState, Waits.{all_ticked, on_tick, call_ticked}}
use Rattle.mesh_rules.proofs.LinkNews.{no-end, no-news}
use Rattle.mesh_nodes.specs.{FitNodes.{CallFits, NodeFits}, Sent.AllToNeighbours}
use Rattle.mesh_nodes.proofs.{Cases.if_cases, Items.items-fit, Messages.messages-fit, NewNodes.{new-fits, new-place}, Ticks.{tick-kept, ticks-fit}}
use Rattle.mesh_laws.specs.HomeLaw.{EveryRunStaysAtHome, StaysAtHome, are_neighbours}
use Rattle.mesh_laws.proofs.home.Neighbours.{none-sent, not-near}

-- Ticks

one-tick : (p : LocalNode) (s : NodeState) → NodeFits p s → (c : CallRec) → CallFits p c →
    AllToNeighbours p (call_ticked p.wait s.legs c).sent
one-tick p s fits c here =
    subst (AllToNeighbours p) (append-nil (call_ticked p.wait s.legs c).sent)
    (ticks-fit p (record s { calls = c ∷ [] }) (record {
      legs = fits.legs;
      calls = record { rise = (tt, tt); each = (here, tt) };
      first = fits.first;
      numbers = fits.numbers;
    }) (omega arith)).near

all-ticks : (p : LocalNode) (s : NodeState) → NodeFits p s → (cs : List CallRec) → AllByRecursion (CallFits p) cs →
    AllToNeighbours p (all_ticked p.wait s.legs cs).sent
all-ticks p s fits [] each = tt
all-ticks p s fits (c ∷ cs) each =
    All-append _ (call_ticked p.wait s.legs c).sent (all_ticked p.wait s.legs cs).sent (one-tick p s fits c each.0)
    (all-ticks p s fits cs each.1)

-- Each event

pub record AtHome (t : Network) (s : Mesh) : Type 0 where
  pub fits : (n : NodeId) → NodeFits (local_node t n) (s.nodes n.0)
  pub home : StaysAtHome t s

committed : (t : Network) (s : Mesh) (n : NodeId) (a : Answer) → IsTopology t →
    ((m : NodeId) → NodeFits (local_node t m) (s.nodes m.0)) → StaysAtHome t s →
    NodeFits (local_node t n) (changed (s.nodes n.0) a) → AllToNeighbours (local_node t n) a.sent →
    AtHome t (commit s n.0 a)
committed t s n a valid fit home fits near = record {
  fits = λ m. at_node m (nat_eq m.0 n.0) refl;
  home = record { mail = λ u d none. mail u d none (nat_eq u.0 n.0) refl; desks = home.desks };
}
  where
    at_node : (m : NodeId) (b : Bool) → nat_eq m.0 n.0 ≡ b →
        NodeFits (local_node t m) (cond b (changed (s.nodes m.0) a) (s.nodes m.0))
    at_node m true e =
        let number : m.0 ≡ n.0 = grind (arith, e) in
        subst (λ (x : NodeId). NodeFits (local_node t x) (changed (s.nodes x.0) a)) (sym (same-node m n number)) fits
    at_node m false e = fit m

    mail : (u d : NodeId) → are_neighbours t u d ≡ false → (b : Bool) → nat_eq u.0 n.0 ≡ b →
        cond b (s.mail u.0 d.0 ++ sent_to d.0 a.sent) (s.mail u.0 d.0) ≡ []
    mail u d none true e =
        let number : u.0 ≡ n.0 = grind (arith, e) in
        let near_u : AllToNeighbours (local_node t u) a.sent =
        subst (λ (x : NodeId). AllToNeighbours (local_node t x) a.sent) (sym (same-node u n number)) near in
        ap (λ xs. xs ++ sent_to d.0 a.sent) (home.mail u d none)
        ∙ none-sent (local_node t u) d (not-near t u d valid none) a.sent near_u
    mail u d none false e = home.mail u d none

drop-none : {X : Type 0} (b : Bool) (xs : List X) → xs ≡ [] → cond b (drop 1 xs) xs ≡ []
drop-none true xs e = ap (drop 1) e
drop-none false xs e = e

taken-home : (t : Network) (s : Mesh) (u d : ℕ) → StaysAtHome t s → StaysAtHome t (without_first s u d)
taken-home t s u d home = record {
  mail = λ a b none. drop-none (nat_eq a.0 u && nat_eq b.0 d) (s.mail a.0 b.0) (home.mail a b none);
  desks = home.desks;
}

item-home : (t : Network) (s : Mesh) (n : ℕ) → StaysAtHome t s → StaysAtHome t (without_item s n)
item-home t s n home =
    record { mail = home.mail; desks = λ m none. drop-none (nat_eq m.0 n) (s.desks m.0) (home.desks m none) }

first-at_home : (t : Network) (s : Mesh) (d u : NodeId) (ms : List Msg) → has_first ms ≡ true → IsTopology t → AtHome t s →
    (NodeFits (local_node t d) (changed (s.nodes d.0) (on_first (local_node t d) (s.nodes d.0) u ms)))
    × AllToNeighbours (local_node t d) (on_first (local_node t d) (s.nodes d.0) u ms).sent
first-at_home t s d u [] some valid at = absurd (cc (some))
first-at_home t s d u (m ∷ ms) some valid at =
    let f = messages-fit (local_node t d) (s.nodes d.0) u m (new-place t d valid) (at.fits d) in (f.kept, f.near)

item-at_home : (t : Network) (s : Mesh) (n : NodeId) (items : List DeskItem) → has_first items ≡ true → IsTopology t → AtHome t s →
    (NodeFits (local_node t n) (changed (s.nodes n.0) (on_first_item (local_node t n) (s.nodes n.0) items)))
    × AllToNeighbours (local_node t n) (on_first_item (local_node t n) (s.nodes n.0) items).sent
item-at_home t s n [] some valid at = absurd (cc (some))
item-at_home t s n (i ∷ items) some valid at =
    let f = items-fit (local_node t n) (s.nodes n.0) i (new-place t n valid) (at.fits n) in (f.kept, f.near)

link-at_home : (t : Network) (s : Mesh) (n : NodeId) (found : Option LinkSpec) → AtHome t s →
    (NodeFits (local_node t n) (changed (s.nodes n.0) (on_link (local_node t n) (s.nodes n.0) found)))
    × AllToNeighbours (local_node t n) (on_link (local_node t n) (s.nodes n.0) found).sent
link-at_home t s n None at = (same nothing refl refl refl, tt)
  where
    same : (a : Answer) → a.legs ≡ [] → a.calls ≡ [] → a.numbers ≡ None →
        NodeFits (local_node t n) (changed (s.nodes n.0) a)
    same a legs calls numbers = rw (legs, calls, numbers) (record {
      legs = (at.fits n).legs;
      calls = (at.fits n).calls;
      first = (at.fits n).first;
      numbers = (at.fits n).numbers;
    })
link-at_home t s n (Some l) at =
    if_cases (λ (a : Answer). (NodeFits (local_node t n) (changed (s.nodes n.0) a))
    × AllToNeighbours (local_node t n) a.sent)
    (has_row (known_rows (local_node t n) (s.nodes n.0)) l.id) nothing (learns (row_of l))
    (λ h. (
      record {
        legs = (at.fits n).legs;
        calls = (at.fits n).calls;
        first = (at.fits n).first;
        numbers = (at.fits n).numbers;
      },
      tt,
    ))
    (λ h. (
      record {
        legs = (at.fits n).legs;
        calls = (at.fits n).calls;
        first = (at.fits n).first;
        numbers = (at.fits n).numbers;
      },
      tt,
    ))

-- Posts

one-more : (t : Network) (s : Mesh) (n : NodeId) (x : DeskItem) → is_node_id t.nodes n ≡ true → StaysAtHome t s →
    StaysAtHome t (with_item s n.0 x)
one-more t s n x node home = record {
  mail = home.mail;
  desks = λ m none. subst (λ b. cond b (s.desks m.0 ++ x ∷ []) (s.desks m.0) ≡ [])
      (sym (turn n.0 m.0 (no-end t.nodes m n none node))) (home.desks m none);
}
  where
    turn : (a b : ℕ) → nat_eq a b ≡ false → nat_eq b a ≡ false
    turn a b e = grind (arith, e)

news-home : (t : Network) (s : Mesh) (groups : List Group) → IsTopology t → StaysAtHome t s →
    StaysAtHome t (with_failed t s groups)
news-home t s groups valid home = record {
  mail = home.mail;
  desks = λ m none.
      ap (λ xs. xs ++ all_news t s.failed groups m.0) (home.desks m none) ∙ no-news t valid s.failed groups m none;
}

post-at_home : (t : Network) (s : Mesh) (c : Command) → IsTopology t → is_valid t c ≡ true → AtHome t s →
    AtHome t (posted t s c)
post-at_home t s (Setup k from to protected both via backup) valid is at =
    let h = one-more t s from (Order (Setup k from to protected both via backup)) (first_of is) at.home in
    record { fits = at.fits; home = record { mail = h.mail; desks = h.desks } }
  where
    first_of : is_valid t (Setup k from to protected both via backup) ≡ true → is_node_id t.nodes from ≡ true
    first_of is = and-left _ _ (and-left _ _ (and-left _ _ (and-left _ _ is)))
post-at_home t s (Release k from) valid is at =
    record { fits = at.fits; home = one-more t s from (Order (Release k from)) is at.home }
post-at_home t s (Protect k from) valid is at =
    record { fits = at.fits; home = one-more t s from (Order (Protect k from)) (and-left _ _ is) at.home }
post-at_home t s (Retry k from) valid is at =
    record { fits = at.fits; home = one-more t s from (Order (Retry k from)) is at.home }
post-at_home t s (Revert k from) valid is at =
    record { fits = at.fits; home = one-more t s from (Order (Revert k from)) is at.home }
post-at_home t s (Fail g) valid is at =
    record { fits = at.fits; home = news-home t s (with_group g s.failed) valid at.home }
post-at_home t s (Repair g) valid is at =
    record { fits = at.fits; home = news-home t s (without_group g s.failed) valid at.home }

-- Every run

event-at_home : (t : Network) (s : Mesh) (e : MeshEvent) → IsTopology t → is_enabled t s e ≡ true → AtHome t s →
    AtHome t (step t s e)
event-at_home t s (Take d u) valid on at =
    let f = first-at_home t s d u (s.mail u.0 d.0) on valid at in
    committed t (without_first s u.0 d.0) d (on_first (local_node t d) (s.nodes d.0) u (s.mail u.0 d.0)) valid at.fits
    (taken-home t s u.0 d.0 at.home) f.0 f.1
event-at_home t s (Desk n) valid on at =
    let f = item-at_home t s n (s.desks n.0) on valid at in
    committed t (without_item s n.0) n (on_first_item (local_node t n) (s.nodes n.0) (s.desks n.0)) valid at.fits
    (item-home t s n.0 at.home) f.0 f.1
event-at_home t s (Tick n) valid on at =
    committed t s n (on_tick (local_node t n) (s.nodes n.0)) valid at.fits at.home
    (tick-kept (local_node t n) (s.nodes n.0) (at.fits n))
    (all-ticks (local_node t n) (s.nodes n.0) (at.fits n) (s.nodes n.0).calls (at.fits n).calls.each)
event-at_home t s (Learn n k) valid on at =
    let f = link-at_home t s n (find_link t k) at in
    committed t s n (on_link (local_node t n) (s.nodes n.0) (find_link t k)) valid at.fits at.home f.0 f.1
event-at_home t s (Post c) valid on at = post-at_home t s c valid (and-left _ _ on) at

all-at_home : (t : Network) → IsTopology t → (es : List MeshEvent) (s : Mesh) → IsRun t s es → AtHome t s →
    AtHome t (after t s es)
all-at_home t valid [] s run at = at
all-at_home t valid (e ∷ es) s run at =
    all-at_home t valid es (step t s e) run.1 (event-at_home t s e valid run.0 at)

-- In every run over a topology they do.
pub every_run_at_home : EveryRunStaysAtHome
every_run_at_home t es valid run =
    (all-at_home t valid es start run (record {
      fits = λ n. new-fits (local_node t n);
      home = record { mail = λ u d none. refl; desks = λ n none. refl };
    })).home

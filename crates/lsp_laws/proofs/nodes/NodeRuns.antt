-- The facts of each node hold in every state of every run.
use Rattle.std.proofs.Common.{◌≡◌, ℕ, Bool, true, false, cond, not, nat_eq, List, [], ◌∷◌, ◌++◌, drop, refl, sym, subst, arith}
use Rattle.ason_base.specs.{declared.ids.LinkId.LinkId, declared.ids.NodeId.NodeId, declared.commands.Command.Command, declared.commands.Command.TheVariants.{Setup, Release, Protect, Retry, Revert, Fail, Repair}, declared.commands.DeskItem.DeskItem, declared.commands.DeskItem.TheVariants.Order, declared.messages.Msg.Msg, declared.network.LinkSpec.LinkSpec, declared.network.TeRow.TeRow, Network.{Network, find_link, row_of}, Lsps.same_bool, declared.commands.Group.Group, declared.ids.Fibre.Fibre}
use Rattle.std.specs.Prelude.{Option, Some, None, flat_map}
use Rattle.mesh_rules.specs.{declared.events.MeshEvent.MeshEvent, declared.events.MeshEvent.TheVariants.{Take, Desk, Tick, Learn, Post}, Changes.{Answer, changed, learns, nothing}, Failures.{all_news, changed_news, is_cut, link_news, news, news_at, with_failed, with_group, without_group}, KnownRows.{has_row, known_rows}, Learnt.{on_link, on_row}, LocalNodes.{LocalNode, local_node}, State.{NodeState, new_node}, Commands.{is_again, is_valid}, Machine.{Mesh, commit, start, with_item, without_first, without_item}, Waits.on_tick, Events.{IsRun, after, is_enabled, on_first, on_first_item, posted, step}}
use Rattle.ason_base.proofs.{Bools.and-left, Members.contains-none}
use Rattle.mesh_nodes.specs.Routes.{AreRowsOf}
use Rattle.mesh_nodes.proofs.{Cases.if_cases, LearnsNothing.{item-learns_nothing, tick-learns_nothing}, routes.Learnt.{found-row, learnt-stay_true, same-rows_true}}
use Rattle.lsp_laws.specs.NodeLaw.{DeskFits, FitsDesk}
use Rattle.lsp_laws.proofs.{nodes.Facts.{MeshFacts, NodeFacts, same-facts}, nodes.BackedCalls.{AreBacked, CallsBacked, backed-after, backs-item, backs-message, backs-tick}, nodes.PathKeeps.KeepsFacts, nodes.MessageKeeps.keeps-on_message, nodes.OrderKeeps.keeps-on_item, nodes.TickKeeps.keeps-tick}
use Rattle.mesh_nodes.proofs.LearnsNothing.{first-learns_nothing}

pub new-facts : (n : ℕ) → NodeFacts n new_node
new-facts n = record {
  legs_rise = tt;
  leg = λ l g found. absurd (cc found);
  labels = λ f x l m g h found there this that. absurd (cc found);
  marks = λ f x l m g h found there this that mark_g mark_h. absurd (cc found);
  calls_rise = tt;
  call = λ k c found. absurd (cc found);
  one_call = λ l k m c d found there this that. absurd (cc found);
  has_call = λ l g found here standing. absurd (cc found);
}

pub facts-start : (t : Network) → MeshFacts t start
facts-start t = record {
  node = λ n. new-facts n;
  desk = λ n. tt;
  backed = λ n k c found. absurd (cc found);
  learnt = λ n row there. absurd (contains-none row there);
}

-- A rule is carried out at a node

keeps-commit : (t : Network) (s : Mesh) (n : NodeId) (a : Answer) → NodeFacts n.0 (changed (s.nodes n.0) a) →
    AreBacked t a.calls → AreRowsOf t (changed (s.nodes n.0) a).learnt → MeshFacts t s → MeshFacts t (commit s n.0 a)
keeps-commit t s n a here calls rows facts = record {
  node = λ m. each m (nat_eq m n.0) refl;
  desk = facts.desk;
  backed = λ m. backed m (nat_eq m n.0) refl;
  learnt = λ m. learnt m (nat_eq m n.0) refl;
}
  where
    learnt : (m : ℕ) (b : Bool) → nat_eq m n.0 ≡ b → AreRowsOf t (cond b (changed (s.nodes m) a) (s.nodes m)).learnt
    learnt m true e =
        let is : m ≡ n.0 = grind arith in subst (λ k. AreRowsOf t (changed (s.nodes k) a).learnt) (sym is) rows
    learnt m false e = facts.learnt m

    same-node : (m : NodeId) → nat_eq m.0 n.0 ≡ true → n ≡ m
    same-node m e = let is : n.0 ≡ m.0 = grind arith in λ i. record { 0 = is i }

    backed : (m : ℕ) (b : Bool) → nat_eq m n.0 ≡ b →
        CallsBacked t (cond b (changed (s.nodes m) a) (s.nodes m)).calls
    backed m true e = backed-after t a.calls (s.nodes m).calls calls (facts.backed m)
    backed m false e = facts.backed m

    each : (m : ℕ) (b : Bool) → nat_eq m n.0 ≡ b → NodeFacts m (cond b (changed (s.nodes m) a) (s.nodes m))
    each m true e = let is : m ≡ n.0 = grind arith in subst (λ k. NodeFacts k (changed (s.nodes k) a)) (sym is) here
    each m false e = facts.node m

keeps-first : (p : LocalNode) (s : NodeState) (u : NodeId) (ms : List Msg) → NodeFacts p.id.0 s →
    KeepsFacts p s (on_first p s u ms)
keeps-first p s u [] facts = facts
keeps-first p s u (m ∷ ms) facts = keeps-on_message p s u m facts

pub first_item-learns_nothing : (p : LocalNode) (s : NodeState) (items : List DeskItem) →
    (on_first_item p s items).rows ≡ []
first_item-learns_nothing p s [] = refl
first_item-learns_nothing p s (i ∷ items) = item-learns_nothing p s i

keeps-first_item : (p : LocalNode) (s : NodeState) (items : List DeskItem) → NodeFacts p.id.0 s →
    KeepsFacts p s (on_first_item p s items)
keeps-first_item p s [] facts = facts
keeps-first_item p s (i ∷ items) facts = keeps-on_item p s i facts

-- the calls that these put in their places can be backed
module _ (t : Network) (n : NodeId) (p : LocalNode) (s : NodeState) (facts : NodeFacts n.0 s)
    (backed : CallsBacked t s.calls) where
  backs-first : (u : NodeId) (ms : List Msg) → AreBacked t (on_first p s u ms).calls
  backs-first u [] = tt
  backs-first u (m ∷ ms) = backs-message t p s facts.calls_rise backed u m

  backs-first_item : (items : List DeskItem) → DeskFits t n.0 items → AreBacked t (on_first_item p s items).calls
  backs-first_item [] fits = tt
  backs-first_item (i ∷ items) fits = backs-item t n.0 p s facts.calls_rise backed i fits.0

-- Desks

fits-less : (t : Network) (n : ℕ) (items : List DeskItem) → DeskFits t n items → DeskFits t n (drop 1 items)
fits-less t n [] fits = tt
fits-less t n (i ∷ items) fits = fits.1

fits-more : (t : Network) (n : ℕ) (items : List DeskItem) (i : DeskItem) → DeskFits t n items → FitsDesk t n i →
    DeskFits t n (items ++ i ∷ [])
fits-more t n [] i fits here = (here, tt)
fits-more t n (j ∷ items) i fits here = (fits.0, fits-more t n items i fits.1 here)

without_item-facts : (t : Network) (s : Mesh) (n : ℕ) → MeshFacts t s → MeshFacts t (without_item s n)
without_item-facts t s n facts = record {
  node = facts.node;
  desk = λ m. if_cases (DeskFits t m) (nat_eq m n) _ _ (λ e. fits-less t m (s.desks m) (facts.desk m))
      (λ e. facts.desk m);
  backed = facts.backed;
  learnt = facts.learnt;
}

-- an order more on the desk of its node
more-facts : (t : Network) (s : Mesh) (n : ℕ) (i : DeskItem) → FitsDesk t n i → MeshFacts t s → (m : ℕ) →
    DeskFits t m (cond (nat_eq m n) (s.desks m ++ i ∷ []) (s.desks m))
more-facts t s n i here facts m =
    if_cases (DeskFits t m) (nat_eq m n) _ _
    (λ e. let is : m ≡ n = grind arith in fits-more t m (s.desks m) i (facts.desk m)
    (subst (λ k. FitsDesk t k i) (sym is) here))
    (λ e. facts.desk m)

-- Failures

fits-append : (t : Network) (n : ℕ) (items more : List DeskItem) → DeskFits t n items → DeskFits t n more →
    DeskFits t n (items ++ more)
fits-append t n [] more fits these = these
fits-append t n (i ∷ items) more fits these = (fits.0, fits-append t n items more fits.1 these)

news-fits : (t : Network) (n : ℕ) (cut : Bool) (f : Fibre) → FitsDesk t n (news cut f)
news-fits t n true f = tt
news-fits t n false f = tt

-- what a node is told of a fibre, of a link and of all links
news_at-fit : (t : Network) (n receiver : ℕ) (cut : Bool) (f : Fibre) → DeskFits t n (news_at n receiver cut f)
news_at-fit t n receiver cut f =
    if_cases (DeskFits t n) (nat_eq receiver n) (news cut f ∷ []) [] (λ e. (news-fits t n cut f, tt)) (λ e. tt)

link_news-fit : (t : Network) (n : ℕ) (cut : Bool) (l : LinkSpec) → DeskFits t n (link_news n cut l)
link_news-fit t n cut l =
    fits-append t n (news_at n l.high.0 cut (record { link = l.id; forward = true })) _
    (news_at-fit t n l.high.0 cut (record { link = l.id; forward = true }))
    (news_at-fit t n l.low.0 cut (record { link = l.id; forward = false }))

changed_news-fit : (t : Network) (before after : List Group) (n : ℕ) (l : LinkSpec) →
    DeskFits t n (changed_news before after n l)
changed_news-fit t before after n l =
    if_cases (DeskFits t n) (same_bool (is_cut before l) (is_cut after l)) [] (link_news n (is_cut after l) l)
    (λ e. tt) (λ e. link_news-fit t n (is_cut after l) l)

each_news-fit : (t : Network) (before after : List Group) (n : ℕ) (links : List LinkSpec) →
    DeskFits t n (flat_map (changed_news before after n) links)
each_news-fit t before after n [] = tt
each_news-fit t before after n (l ∷ links) =
    fits-append t n (changed_news before after n l) _ (changed_news-fit t before after n l)
    (each_news-fit t before after n links)

keeps-failed : (t : Network) (s : Mesh) (groups : List Group) → MeshFacts t s → MeshFacts t (with_failed t s groups)
keeps-failed t s groups facts = record {
  node = facts.node;
  desk = λ m. fits-append t m (s.desks m) (all_news t s.failed groups m) (facts.desk m)
      (each_news-fit t s.failed groups m t.links);
  backed = facts.backed;
  learnt = facts.learnt;
}

-- an order that fits is put on the desk of its node
keeps-ordered : (t : Network) (s : Mesh) (n : ℕ) (c : Command) → FitsDesk t n (Order c) → MeshFacts t s →
    MeshFacts t (with_item s n (Order c))
keeps-ordered t s n c fits facts = record {
  node = facts.node;
  desk = more-facts t s n (Order c) fits facts;
  backed = facts.backed;
  learnt = facts.learnt;
}

keeps-posted : (t : Network) (s : Mesh) (c : Command) → is_valid t c ≡ true → MeshFacts t s →
    MeshFacts t (posted t s c)
keeps-posted t s (Setup n from to protected both via backup) valid facts = record {
  node = facts.node;
  desk = more-facts t s from.0 (Order (Setup n from to protected both via backup)) (valid, refl) facts;
  backed = facts.backed;
  learnt = facts.learnt;
}
keeps-posted t s (Release n from) valid facts = keeps-ordered t s from.0 (Release n from) (valid, refl) facts
keeps-posted t s (Protect n from) valid facts = keeps-ordered t s from.0 (Protect n from) (valid, refl) facts
keeps-posted t s (Retry n from) valid facts = keeps-ordered t s from.0 (Retry n from) (valid, refl) facts
keeps-posted t s (Revert n from) valid facts = keeps-ordered t s from.0 (Revert n from) (valid, refl) facts
keeps-posted t s (Fail g) valid facts = keeps-failed t s (with_group g s.failed) facts
keeps-posted t s (Repair g) valid facts = keeps-failed t s (without_group g s.failed) facts

-- A link that a neighbour knows

pub keeps-row : (p : LocalNode) (s : NodeState) (row : TeRow) → NodeFacts p.id.0 s → KeepsFacts p s (on_row p s row)
keeps-row p s row facts =
    if_cases (KeepsFacts p s) (has_row (known_rows p s) row.link) nothing (learns row) (λ known. facts)
    (λ none. same-facts p.id.0 s (s.learnt ++ row ∷ []) s.down facts)

keeps-link : (p : LocalNode) (s : NodeState) (o : Option LinkSpec) → NodeFacts p.id.0 s → KeepsFacts p s (on_link p s o)
keeps-link p s None facts = facts
keeps-link p s (Some l) facts = keeps-row p s (row_of l) facts

backs-link : (t : Network) (p : LocalNode) (s : NodeState) (o : Option LinkSpec) → AreBacked t (on_link p s o).calls
backs-link t p s None = tt
backs-link t p s (Some l) =
    if_cases (λ a. AreBacked t a.calls) (has_row (known_rows p s) l.id) nothing (learns (row_of l)) (λ known. tt)
    (λ none. tt)

true-link : (t : Network) (p : LocalNode) (s : NodeState) (k : LinkId) (o : Option LinkSpec) → find_link t k ≡ o →
    AreRowsOf t s.learnt → AreRowsOf t (changed s (on_link p s o)).learnt
true-link t p s k None found rows = rows
true-link t p s k (Some l) found rows = learnt-stay_true t p s (row_of l) rows (found-row t k l found)

-- Every event

pub facts-step : (t : Network) (s : Mesh) (e : MeshEvent) → is_enabled t s e ≡ true → MeshFacts t s →
    MeshFacts t (step t s e)
facts-step t s (Take d u) enabled facts =
    keeps-commit t (without_first s u.0 d.0) d (on_first (local_node t d) (s.nodes d.0) u (s.mail u.0 d.0))
    (keeps-first (local_node t d) (s.nodes d.0) u (s.mail u.0 d.0) (facts.node d.0))
    (backs-first t d (local_node t d) (s.nodes d.0) (facts.node d.0) (facts.backed d.0) u (s.mail u.0 d.0))
    (same-rows_true t (s.nodes d.0) (on_first (local_node t d) (s.nodes d.0) u (s.mail u.0 d.0))
    (first-learns_nothing (local_node t d) (s.nodes d.0) u (s.mail u.0 d.0)) (facts.learnt d.0))
    (record { node = facts.node; desk = facts.desk; backed = facts.backed; learnt = facts.learnt })
facts-step t s (Desk n) enabled facts =
    keeps-commit t (without_item s n.0) n (on_first_item (local_node t n) (s.nodes n.0) (s.desks n.0))
    (keeps-first_item (local_node t n) (s.nodes n.0) (s.desks n.0) (facts.node n.0))
    (backs-first_item t n (local_node t n) (s.nodes n.0) (facts.node n.0) (facts.backed n.0) (s.desks n.0)
    (facts.desk n.0))
    (same-rows_true t (s.nodes n.0) (on_first_item (local_node t n) (s.nodes n.0) (s.desks n.0))
    (first_item-learns_nothing (local_node t n) (s.nodes n.0) (s.desks n.0)) (facts.learnt n.0))
    (without_item-facts t s n.0 facts)
facts-step t s (Tick n) enabled facts =
    keeps-commit t s n (on_tick (local_node t n) (s.nodes n.0))
    (keeps-tick (local_node t n) (s.nodes n.0) (facts.node n.0))
    (backs-tick t (local_node t n) (s.nodes n.0) (facts.node n.0).calls_rise (facts.backed n.0))
    (same-rows_true t (s.nodes n.0) (on_tick (local_node t n) (s.nodes n.0))
    (tick-learns_nothing (local_node t n) (s.nodes n.0)) (facts.learnt n.0)) facts
facts-step t s (Learn n k) enabled facts =
    keeps-commit t s n (on_link (local_node t n) (s.nodes n.0) (find_link t k))
    (keeps-link (local_node t n) (s.nodes n.0) (find_link t k) (facts.node n.0))
    (backs-link t (local_node t n) (s.nodes n.0) (find_link t k))
    (true-link t (local_node t n) (s.nodes n.0) k (find_link t k) refl (facts.learnt n.0)) facts
facts-step t s (Post c) enabled facts =
    keeps-posted t s c (and-left (is_valid t c) (not (is_again s.posted c)) enabled) facts

facts-run : (t : Network) (s : Mesh) (events : List MeshEvent) → MeshFacts t s → IsRun t s events →
    MeshFacts t (after t s events)
facts-run t s [] facts run = facts
facts-run t s (e ∷ es) facts run = facts-run t (step t s e) es (facts-step t s e run.0 facts) run.1

pub facts-hold : (t : Network) (events : List MeshEvent) → IsRun t start events → MeshFacts t (after t start events)
facts-hold t events run = facts-run t start events (facts-start t) run

-- The laws of a network of floods, of what lasts in it.
use Rattle.std.proofs.{Common.{◌≡◌, ◌≢◌, ◌≤◌, ◌↔◌, ◌⊎◌, inl, inr, ℕ, ◌+◌, ◌<◌, ◌==◌, Bool, true, false, cond, List, [], ◌∷◌, length, get_or, refl, sym, ap, ◌∙◌, subst, arith, Contains, All}, lemmas.List.Elements.{All-contains, Contains-get_or}, lemmas.List.Sums.get_or-le-sum_by}
use Rattle.std.specs.Prelude.{◌||◌}
use Rattle.ason_base.specs.{declared.limits.TheConstants.MOST_METRIC, Network.end_beside, Walks.{HaveDistinctLinks, IsWalk, Joins, NoLink, NoNode}, declared.ids.NodeId.NodeId, declared.network.TeRow.TeRow, declared.steps.Step.Step}
use Rattle.ason_base.proofs.{Numbers.{equal-not, equal-self}, Members.{there-kept, there-map}, JoinedEnds.swapped}
use Rattle.flood.specs.{declared.messages.FloodMsg.TheVariants.Row, State.{FloodState, NeighbourState, is_end, is_known, pending_count}, Networks.{FloodNetwork, floods_after, begun, nodes_beside, own_rows}, NetworkLaws.{AreJoined, AreRowsOfLinks, CanBeSearched, DueRises, InEveryRun, JoinedNodesKnowLinks, JoinedNodesKnowSame, KnownCanBeSearched, KnownRowsAreTrue, NothingIsDue, OneNumberIsOneRow, SentIsKnown, UnknownIsNew}}
use Rattle.flood.proofs.{KnownRows.known_is_there, NodeFacts.unknown_is_new, ChannelFacts.{IsDueAs, one_number}, NetworkEvents.run_lasts, NetworkFacts.Lasts, Beginnings.begun_lasts}

-- what follows from what lasts holds in every run
in_every_run : (P : List TeRow → FloodNetwork → Type 0)
    → ((rows : List TeRow) → AreRowsOfLinks rows → (w : FloodNetwork) → Lasts rows w → P rows w) → InEveryRun P
in_every_run P law rows are events =
    law rows are (floods_after (begun rows) events) (run_lasts rows are events (begun rows) (begun_lasts rows are))

pub known_is_true : InEveryRun KnownRowsAreTrue
known_is_true = in_every_run KnownRowsAreTrue (λ rows are w all n row known. (all.node n).truth row known)

all_known : (rows known : List TeRow) (P : TeRow → Type 0) → ((r : TeRow) → Contains known r → Contains rows r)
    → All P rows → All P known
all_known rows known P truth all k d within =
    All-contains P rows (get_or known k d) all (truth (get_or known k d) (Contains-get_or known k d within))

pub known_can_be_searched : InEveryRun KnownCanBeSearched
known_can_be_searched = in_every_run KnownCanBeSearched
    (λ rows are w all n. searched rows (w.nodes n).rows are (all.node n).truth (all.node n).links)
  where
    searched : (rows known : List TeRow) → AreRowsOfLinks rows → ((r : TeRow) → Contains known r → Contains rows r)
        → HaveDistinctLinks known → CanBeSearched known
    searched rows known are truth distinct = record {
      ends = (
        are.search.ends.0,
        are.search.ends.1,
        all_known rows known (λ r. Contains are.search.ends.0 r.low ×
            Contains are.search.ends.0 r.high) truth are.search.ends.2,
      );
      metrics = all_known rows known (λ r. (1 ≤ r.metric) × (r.metric ≤ MOST_METRIC)) truth are.search.metrics;
      links = distinct;
    }

-- Channels

-- what stands on a channel leads to another node
other_node : (rows : List TeRow) (w : FloodNetwork) → Lasts rows w → (u d number : ℕ) (origin : NodeId) (row : TeRow)
    → Contains (w.channels u d) (Row number origin row) → (u == d) ≡ false
other_node rows w all u d number origin row there = by_test (u == d) refl
  where
    by_test : (b : Bool) → (u == d) ≡ b → (u == d) ≡ false
    by_test true e =
        let is : u ≡ d = grind arith in
        absurd (all.silent d (Row number origin row)
        (subst (λ k. Contains (w.channels k d) (Row number origin row)) is there))
    by_test false e = e

sent_known : (rows : List TeRow) (w : FloodNetwork) → Lasts rows w → (u d number : ℕ) (origin : NodeId) (row : TeRow)
    → Contains (w.channels u d) (Row number origin row) → Contains (w.nodes u).rows row
sent_known rows w all u d number origin row there =
    let f = all.flow u d (other_node rows w all u d number origin row there) in
    let is = f.flow.frames number origin row there in
    f.flow.backed is.place origin row is.at

pub sent_is_known : InEveryRun SentIsKnown
sent_is_known = in_every_run SentIsKnown (λ rows are w all. sent_known rows w all)

pub unknown_is_new_there : InEveryRun UnknownIsNew
unknown_is_new_there = in_every_run UnknownIsNew (λ rows are w all u d number origin row there.
    unknown_is_new rows are d (w.nodes d) row (all.node d) (all.own d)
    ((all.node u).truth row (sent_known rows w all u d number origin row there)))

pub due_rises : InEveryRun DueRises
due_rises = in_every_run DueRises (λ rows are w all n l there. ((all.node n).lines l there).order.rising)

pub one_number_is_one_row : InEveryRun OneNumberIsOneRow
one_number_is_one_row = in_every_run OneNumberIsOneRow (λ rows are w all u d number o p r s first second.
    (let f = all.flow u d (other_node rows w all u d number o r first) in
    one_number f.given number o p r s (f.flow.frames number o r first) (f.flow.frames number p s second)))

-- Where nothing is due

not_due : (s : FloodState) (l : NeighbourState) (n : ℕ) → pending_count s ≡ 0 → Contains s.neighbours l
    → IsDueAs n l → ⊥
not_due s l n none there due =
    let some : 0 < length l.due = (let within = due.there.1 in omega arith) in
    let least : length (get_or s.neighbours there.0 l).due ≤ pending_count s =
    get_or-le-sum_by (λ (m : NeighbourState). length m.due) s.neighbours there.0 l there.1 in
    let same : length (get_or s.neighbours there.0 l).due ≡ length l.due =
    ap (λ (m : NeighbourState). length m.due) there.2 in
    absurd (omega arith)

either_end : (a b : Bool) → (a ≡ true) ⊎ (b ≡ true) → (a || b) ≡ true
either_end a b h = elim h [ inl first ↦ rw first refl | inr second ↦ last a b second ]
  where
    last : (c d : Bool) → d ≡ true → (c || d) ≡ true
    last true d e = refl
    last false d e = e

-- a row that joins two nodes makes them neighbours
pub record AreBeside (rows : List TeRow) (a b : NodeId) : Type 0 where
  pub beside : Contains (nodes_beside rows a) b
  pub apart : (a.0 == b.0) ≡ false

beside : (rows : List TeRow) → AreRowsOfLinks rows → (row : TeRow) (a b : NodeId) → Contains rows row
    → Joins row a b → AreBeside rows a b
beside rows are row a b there joins = elim joins [
  | inl ends ↦ record {
    beside = subst (Contains (nodes_beside rows a)) (from_low ends.0 ∙ ends.1)
        (own (either_end (row.low.0 == a.0) (row.high.0 == a.0) (inl (is_low ends.0))));
    apart = equal-not a.0 b.0 (λ e. apart (ap (λ (n : NodeId). n.0) ends.0 ∙ e ∙ sym (ap (λ (n : NodeId). n.0) ends.1)));
  }
  | inr ends ↦ record {
    beside = subst (Contains (nodes_beside rows a)) (from_high ends.0 ∙ ends.1)
        (own (either_end (row.low.0 == a.0) (row.high.0 == a.0) (inr (is_high ends.0))));
    apart = equal-not a.0 b.0 (λ e. apart (ap (λ (n : NodeId). n.0) ends.1 ∙ sym e ∙
        sym (ap (λ (n : NodeId). n.0) ends.0)));
  }
]
  where
    apart : row.low.0 ≢ row.high.0
    apart = All-contains (λ (r : TeRow). r.low.0 ≢ r.high.0) rows row are.apart there

    is_low : row.low ≡ a → (row.low.0 == a.0) ≡ true
    is_low e = ap (λ (n : NodeId). n.0 == a.0) e ∙ equal-self a.0

    is_high : row.high ≡ a → (row.high.0 == a.0) ≡ true
    is_high e = ap (λ (n : NodeId). n.0 == a.0) e ∙ equal-self a.0

    from_low : row.low ≡ a → end_beside row.low row.high a ≡ row.high
    from_low e = ap (λ c. cond c row.high row.low) (is_low e)

    from_high : row.high ≡ a → end_beside row.low row.high a ≡ row.low
    from_high e = ap (λ c. cond c row.high row.low)
        (equal-not row.low.0 a.0 (λ h. apart (h ∙ sym (ap (λ (n : NodeId). n.0) e))))

    own : is_end a row ≡ true → Contains (nodes_beside rows a) (end_beside row.low row.high a)
    own end = there-map (λ (r : TeRow). end_beside r.low r.high a) (own_rows rows a) row
        (there-kept (is_end a) rows row there end)

module _ (rows : List TeRow) (are : AreRowsOfLinks rows) (w : FloodNetwork) (all : Lasts rows w)
    (none : NothingIsDue w) where
  known_beside : (a b : NodeId) → AreBeside rows a b → (row : TeRow) → Contains (w.nodes a.0).rows row
      → Contains (w.nodes b.0).rows row
  known_beside a b side row known =
      let f = all.flow a.0 b.0 side.apart in
      let neighbour = (all.node a.0).near b side.beside in
      let line = f.flow.lines neighbour.line neighbour.there
      (ap (λ (n : NodeId). n.0 == b.0) neighbour.is ∙ equal-self b.0) in
      let there : is_known (w.nodes b.0).rows row.link ≡ true = elim (f.flow.spread row known) [
        | inl given ↦ elim (line.kept given.place given.origin row given.at) [
          | inl due ↦ absurd (not_due (w.nodes a.0) neighbour.line (given.place + 1) (none a.0) neighbour.there due)
          | inr heard ↦ heard
        ]
        | inr heard ↦ heard
      ]
      in
      known_is_there rows (w.nodes b.0).rows row are.search.links (all.node b.0).truth
      ((all.node a.0).truth row known) there

  known_along : (steps : List Step) (a b : NodeId) (cost : ℕ) → IsWalk rows NoLink NoNode a b steps cost → (row : TeRow)
      → Contains (w.nodes a.0).rows row ↔ Contains (w.nodes b.0).rows row
  known_along [] a b cost walk row =
      let same : a ≡ b = walk.0 in (
        (λ h. subst (λ (n : NodeId). Contains (w.nodes n.0).rows row) same h),
        (λ h. subst (λ (n : NodeId). Contains (w.nodes n.0).rows row) (sym same) h),
      )
  known_along (s ∷ steps) a b cost walk row =
      let rest = known_along steps walk.1 b walk.2 walk.4 row in
      let there = beside rows are walk.0 a walk.1 walk.3.known walk.3.joins in
      let back = beside rows are walk.0 walk.1 a walk.3.known (swapped walk.0 a walk.1 walk.3.joins) in
      ((λ h. rest.0 (known_beside a walk.1 there row h)), (λ h. known_beside walk.1 a back row (rest.1 h)))

  links_known : (a b : NodeId) → AreJoined rows a b → (row : TeRow) → Contains rows row → is_end a row ≡ true
      → Contains (w.nodes b.0).rows row
  links_known a b joined row there end =
      let own : is_known (w.nodes a.0).rows row.link ≡ true = (all.own a.0).own row there end in
      (known_along joined.0 a b joined.1 joined.2 row).0
      (known_is_there rows (w.nodes a.0).rows row are.search.links (all.node a.0).truth there own)

pub joined_know_the_same : InEveryRun JoinedNodesKnowSame
joined_know_the_same = in_every_run JoinedNodesKnowSame (λ rows are w all none a b joined row.
    known_along rows are w all none joined.0 a b joined.1 joined.2 row)

pub joined_know_the_links : InEveryRun JoinedNodesKnowLinks
joined_know_the_links = in_every_run JoinedNodesKnowLinks (λ rows are w all none. links_known rows are w all none)

-- What lasts at each node of a network of floods.
use Rattle.std.proofs.{Common.{◌≡◌, inl, inr, ℕ, ◌+◌, ◌==◌, Bool, true, false, cond, not, List, [], ◌∷◌, map, refl, ap, ◌∙◌, sym, subst, Contains}, lemmas.List.Elements.{Contains-append_left, Contains-push_cases}}
use Rattle.std.specs.Prelude.{Option, Some, ◌&&◌}
use Rattle.ason_base.specs.{Walks.HaveDistinctLinks, declared.ids.NodeId.NodeId, declared.network.TeRow.TeRow}
use Rattle.ason_base.proofs.Members.{there-map}
use Rattle.flood.specs.{declared.messages.FloodMsg.FloodMsg, declared.messages.FloodMsg.TheVariants.{Row, Ack}, State.{NeighbourState, FloodState, IsDueInOrder, acked, acked_by, has_room, is_end, is_from, is_known, is_new, older_neighbour, queued, queued_unless, flood_received, ticked_flood, with_neighbours, with_row}, NetworkLaws.AreRowsOfLinks, Networks.nodes_beside}
use Rattle.flood.proofs.{DueOrder.{acked_in_order, older_in_order, queued_in_order}, Members.each_mapped, KnownRows.{distinct_push, known_last, known_more, room_for_row}}

-- what a node keeps of a neighbour
pub record LineFacts (n : ℕ) (l : NeighbourState) : Type 0 where
  pub other : (l.id.0 == n) ≡ false
  pub order : IsDueInOrder l.sent l.due

-- this is a neighbour
pub record HasNeighbour (s : FloodState) (id : NodeId) : Type 0 where
  pub line : NeighbourState
  pub there : Contains s.neighbours line
  pub is : line.id ≡ id

pub record FloodNodeFacts (rows : List TeRow) (n : ℕ) (s : FloodState) : Type 0 where
  pub me : s.me ≡ record { 0 = n }
  pub truth : (r : TeRow) → Contains s.rows r → Contains rows r
  pub links : HaveDistinctLinks s.rows
  pub lines : (l : NeighbourState) → Contains s.neighbours l → LineFacts n l
  pub near : (id : NodeId) → Contains (nodes_beside rows (record { 0 = n })) id → HasNeighbour s id

-- Neighbours that change

pub acked_id : (from : NodeId) (number : ℕ) (l : NeighbourState) → (acked_by from number l).id ≡ l.id
acked_id from number l =
    elim (l.id.0 == from.0) as (λ b. (cond b (acked number l) l).id ≡ l.id) [ true ↦ refl | false ↦ refl ]

pub queued_id : (from : Option NodeId) (origin : NodeId) (age : Option ℕ) (row : TeRow) (l : NeighbourState)
    → (queued_unless from origin age row l).id ≡ l.id
queued_id from origin age row l =
    elim (is_from from l) as (λ b. (cond b l (queued origin age row l)).id ≡ l.id) [ true ↦ refl | false ↦ refl ]

neighbour_mapped : (s t : FloodState) (g : NeighbourState → NeighbourState) → ((l : NeighbourState) → (g l).id ≡ l.id)
    → t.neighbours ≡ map g s.neighbours → (id : NodeId) → HasNeighbour s id → HasNeighbour t id
neighbour_mapped s t g same are id h = record {
  line = g h.line;
  there = subst (λ ns. Contains ns (g h.line)) (sym are) (there-map g s.neighbours h.line h.there);
  is = same h.line ∙ h.is;
}

line_older : (n : ℕ) (l : NeighbourState) → LineFacts n l → LineFacts n (older_neighbour l)
line_older n l f = record { other = f.other; order = older_in_order l.sent l.due f.order }

line_acked : (n : ℕ) (from : NodeId) (number : ℕ) (l : NeighbourState) → LineFacts n l
    → LineFacts n (acked_by from number l)
line_acked n from number l f = by_from (l.id.0 == from.0)
  where
    by_from : (b : Bool) → LineFacts n (cond b (acked number l) l)
    by_from true = record { other = f.other; order = acked_in_order l.sent number l.due f.order }
    by_from false = f

line_queued : (n : ℕ) (from : Option NodeId) (origin : NodeId) (age : Option ℕ) (row : TeRow) (l : NeighbourState)
    → LineFacts n l
    → LineFacts n (queued_unless from origin age row l)
line_queued n from origin age row l f = by_from (is_from from l)
  where
    by_from : (b : Bool) → LineFacts n (cond b l (queued origin age row l))
    by_from true = f
    by_from false = record {
      other = f.other;
      order = queued_in_order l.sent l.due (record { number = l.sent + 1; age = age; origin = origin; row = row })
          refl f.order;
    }

lines_mapped : (n : ℕ) (g : NeighbourState → NeighbourState) (ns : List NeighbourState)
    → ((l : NeighbourState) → LineFacts n l → LineFacts n (g l))
    → ((l : NeighbourState) → Contains ns l → LineFacts n l)
    → (l : NeighbourState) → Contains (map g ns) l → LineFacts n l
lines_mapped n g ns keeps all = each_mapped (LineFacts n) (LineFacts n) g ns keeps all

-- A node that changes

facts_changed : (rows : List TeRow) (n : ℕ) (s : FloodState) (g : NeighbourState → NeighbourState)
    → ((l : NeighbourState) → (g l).id ≡ l.id) → ((l : NeighbourState) → LineFacts n l → LineFacts n (g l))
    → FloodNodeFacts rows n s
    → FloodNodeFacts rows n (with_neighbours s (map g s.neighbours))
facts_changed rows n s g same keeps f = record {
  me = f.me;
  truth = f.truth;
  links = f.links;
  lines = lines_mapped n g s.neighbours keeps f.lines;
  near = λ id beside. neighbour_mapped s (with_neighbours s (map g s.neighbours)) g same refl id (f.near id beside);
}

pub facts_ticked : (rows : List TeRow) (n : ℕ) (s : FloodState) → FloodNodeFacts rows n s →
    FloodNodeFacts rows n (ticked_flood s)
facts_ticked rows n s f = facts_changed rows n s older_neighbour (λ l. refl) (line_older n) f

pub facts_row : (rows : List TeRow) (n : ℕ) (s : FloodState) (from : Option NodeId) (origin : NodeId)
    (age : Option ℕ) (row : TeRow)
    → Contains rows row → is_known s.rows row.link ≡ false → FloodNodeFacts rows n s
    → FloodNodeFacts rows n (with_row s from origin age row)
facts_row rows n s from origin age row there unknown f = record {
  me = f.me;
  truth = λ r known. elim (Contains-push_cases s.rows row r known) [
    | inl before ↦ f.truth r before
    | inr is ↦ subst
        (Contains rows) is there
  ];
  links = distinct_push s.rows row f.links unknown;
  lines = lines_mapped n (queued_unless from origin age row) s.neighbours (line_queued n from origin age row) f.lines;
  near = λ id beside.
      neighbour_mapped s (with_row s from origin age row) (queued_unless from origin age row)
      (queued_id from origin age row) refl id
      (f.near id beside);
}

pub is_unknown : (s : FloodState) (row : TeRow) → is_new s row ≡ true → is_known s.rows row.link ≡ false
is_unknown s row h = first (is_known s.rows row.link) (is_end s.me row) (has_room s.rows row) h
  where
    first : (a b c : Bool) → (not a && not b && c) ≡ true → a ≡ false
    first true b c h = absurd (cc (h))
    first false b c h = refl

pub facts_received : (rows : List TeRow) (n : ℕ) (s : FloodState) (from : NodeId) (m : FloodMsg)
    → ((number : ℕ) (origin : NodeId) (row : TeRow) → m ≡ Row number origin row → Contains rows row)
    → FloodNodeFacts rows n s → FloodNodeFacts rows n (flood_received s from m)
facts_received rows n s from (Ack number) is f =
    facts_changed rows n s (acked_by from number) (acked_id from number) (line_acked n from number) f
facts_received rows n s from (Row number origin row) is f = by_new (is_new s row) refl
  where
    by_new : (b : Bool) → is_new s row ≡ b →
        FloodNodeFacts rows n (cond b (with_row s (Some from) origin (Some 0) row) s)
    by_new true new = facts_row rows n s (Some from) origin (Some 0) row (is number origin row refl)
        (is_unknown s row new) f
    by_new false old = f

-- What is known

-- the node knows its own rows
pub record KnowsOwn (rows : List TeRow) (n : ℕ) (s : FloodState) : Type 0 where
  pub own : (r : TeRow) → Contains rows r → is_end (record { 0 = n }) r ≡ true → is_known s.rows r.link ≡ true

pub known_on : (s : FloodState) (from : NodeId) (m : FloodMsg) (r : TeRow) → is_known s.rows r.link ≡ true
    → is_known (flood_received s from m).rows r.link ≡ true
known_on s from (Ack number) r known = known
known_on s from (Row number origin row) r known =
    elim (is_new s row) as (λ b. is_known (cond b (with_row s (Some from) origin (Some 0) row) s).rows r.link ≡ true) [
      | true ↦ known_more s.rows row r.link known
      | false ↦ known
    ]

pub there_on : (s : FloodState) (from : NodeId) (m : FloodMsg) (r : TeRow) → Contains s.rows r
    → Contains (flood_received s from m).rows r
there_on s from (Ack number) r there = there
there_on s from (Row number origin row) r there =
    elim (is_new s row) as (λ b. Contains (cond b (with_row s (Some from) origin (Some 0) row) s).rows r) [
      | true ↦ Contains-append_left s.rows (row ∷ []) r there
      | false ↦ there
    ]

-- a row of the network whose link isn't known is new
pub unknown_is_new : (rows : List TeRow) → AreRowsOfLinks rows → (n : ℕ) (s : FloodState) (row : TeRow)
    → FloodNodeFacts rows n s → KnowsOwn rows n s → Contains rows row → is_new s row ≡ not (is_known s.rows row.link)
unknown_is_new rows are n s row f k there = by_known (is_known s.rows row.link) refl (is_end s.me row) refl
  where
    by_known : (a : Bool) → is_known s.rows row.link ≡ a → (b : Bool) → is_end s.me row ≡ b
        → (not a && not b && has_room s.rows row) ≡ not a
    by_known true known b e = refl
    by_known false unknown true end =
        let own : is_known s.rows row.link ≡ true = k.own row there
        (ap (λ (m : NodeId). is_end m row) (sym f.me) ∙ end) in
        absurd (cc (own, unknown))
    by_known false unknown false end = room_for_row rows s.rows row are.search.ends are.few f.truth f.links there
        unknown

-- a row of the network that was taken is known
pub taken_is_known : (rows : List TeRow) → AreRowsOfLinks rows → (n : ℕ) (s : FloodState)
    (from origin : NodeId) (number : ℕ) (row : TeRow) → FloodNodeFacts rows n s → KnowsOwn rows n s → Contains rows row
    → is_known (flood_received s from (Row number origin row)).rows row.link ≡ true
taken_is_known rows are n s from origin number row f k there =
    by_known (is_known s.rows row.link) refl (unknown_is_new rows are n s row f k there)
  where
    by_known : (a : Bool) → is_known s.rows row.link ≡ a → is_new s row ≡ not a
        → is_known (flood_received s from (Row number origin row)).rows row.link ≡ true
    by_known true known new = known_on s from (Row number origin row) row known
    by_known false unknown new =
        subst (λ b. is_known (cond b (with_row s (Some from) origin (Some 0) row) s).rows row.link ≡ true) (sym new)
        (known_last s.rows row)

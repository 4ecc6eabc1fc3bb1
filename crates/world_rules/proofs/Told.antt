-- What nodes flood, of whatever rows: what a node knows is one of the rows, and who sent a row knows it.
use Rattle.std.proofs.{Common.{◌≡◌, inl, inr, ℕ, Bool, true, false, cond, nat_eq, not, List, [], ◌∷◌, ◌++◌, map, refl, sym, subst, Contains, eqb-true}, lemmas.List.Elements.{Contains-append_cases, Contains-append_left, Contains-append_right, Contains-push_cases}}
use Rattle.std.specs.{Prelude.{nat_lt, Option, Some, None}, List.slice_get}
use Rattle.ason_base.specs.{declared.ids.NodeId.NodeId, declared.network.TeRow.TeRow, InOrder.in_order}
use Rattle.ason_base.proofs.Members.{contains-head, contains-tail, kept-there, there-from_map, contains-none}
use Rattle.flood.specs.{declared.due.Due.Due, declared.messages.FloodMsg.FloodMsg, declared.messages.FloodMsg.TheVariants.{Row, Ack}, NetworkLaws.{KnownRowsAreTrue, SentIsKnown}, Networks.{FloodEvent, FloodNetwork, Take, Tick, floods_after, begun, declared_rows, new_flood, nodes_beside, own_rows, sent_to_node, floods_step, floods_taken, with_node}, State.{FloodState, NeighbourState, acked, acked_by, declared_row, fresh_neighbour, is_end, is_from, is_new, older_due, older_neighbour, queued, queued_unless, flood_received, sends_after, sent_at_tick, ticked_flood, with_neighbours, with_row}}
use Rattle.flood.proofs.{Members.{each_mapped, there_from_place}, NodeFacts.there_on, SentMessages.{sent_after_row, sent_in_tick}}

-- what is known is one of the rows, and what is due to a neighbour is known
record IsTold (rows : List TeRow) (s : FloodState) : Type 0 where
  truth : (r : TeRow) → Contains s.rows r → Contains rows r
  due : (l : NeighbourState) → Contains s.neighbours l → (e : Due) → Contains l.due e → Contains s.rows e.row

-- A node that changes

AreDueOf : List TeRow → NeighbourState → Type 0
AreDueOf known l = (e : Due) → Contains l.due e → Contains known e.row

told-row : (rows : List TeRow) (s : FloodState) (from : Option NodeId) (origin : NodeId) (age : Option ℕ)
    (row : TeRow) → Contains rows row → IsTold rows s → IsTold rows (with_row s from origin age row)
unfolding AreDueOf
told-row rows s from origin age row there told = record {
  truth = λ r known. elim (Contains-push_cases s.rows row r known) [
    | inl before ↦ told.truth r before
    | inr is ↦ subst (Contains rows) is there
  ];
  due = each_mapped (AreDueOf s.rows) (AreDueOf (s.rows ++ row ∷ [])) (queued_unless from origin age row) s.neighbours
      (λ l all. line l all (is_from from l)) told.due;
}
  where
    kept : (l : NeighbourState) → AreDueOf s.rows l → AreDueOf (s.rows ++ row ∷ []) l
    kept l all e there = Contains-append_left s.rows (row ∷ []) e.row (all e there)

    last : Contains (s.rows ++ row ∷ []) row
    last = Contains-append_right s.rows (row ∷ []) row (contains-head row [])

    line : (l : NeighbourState) → AreDueOf s.rows l → (b : Bool) →
        AreDueOf (s.rows ++ row ∷ []) (cond b l (queued origin age row l))
    line l all true e there = kept l all e there
    line l all false e there = elim (Contains-push_cases l.due _ e there) [
      | inl earlier ↦ kept l all e earlier
      | inr is ↦ subst (λ (x : Due). Contains (s.rows ++ row ∷ []) x.row) is last
    ]

told-ticked : (rows : List TeRow) (s : FloodState) → IsTold rows s → IsTold rows (ticked_flood s)
unfolding AreDueOf
told-ticked rows s told = record {
  truth = told.truth;
  due = each_mapped (AreDueOf s.rows) (AreDueOf s.rows) older_neighbour s.neighbours aged told.due;
}
  where
    aged : (l : NeighbourState) → AreDueOf s.rows l → AreDueOf s.rows (older_neighbour l)
    aged l all e there =
        let before = there-from_map older_due l.due e there in
        subst (λ (x : Due). Contains s.rows x.row) before.2 (all before.0 before.1)

told-acked : (rows : List TeRow) (s : FloodState) (from : NodeId) (number : ℕ) → IsTold rows s →
    IsTold rows (with_neighbours s (map (acked_by from number) s.neighbours))
unfolding AreDueOf
told-acked rows s from number told = record {
  truth = told.truth;
  due = each_mapped (AreDueOf s.rows) (AreDueOf s.rows) (acked_by from number) s.neighbours
      (λ l all. left l all (nat_eq l.id.0 from.0)) told.due;
}
  where
    left : (l : NeighbourState) → AreDueOf s.rows l → (b : Bool) → AreDueOf s.rows (cond b (acked number l) l)
    left l all true e there =
        all e (kept-there (λ (d : Due). not (nat_eq d.number number)) l.due e there).0
    left l all false e there = all e there

told-received : (rows : List TeRow) (s : FloodState) (from : NodeId) (number : ℕ) (origin : NodeId) (row : TeRow) →
    Contains rows row → IsTold rows s → IsTold rows (flood_received s from (Row number origin row))
told-received rows s from number origin row there told = by_new (is_new s row)
  where
    by_new : (b : Bool) → IsTold rows (cond b (with_row s (Some from) origin (Some 0) row) s)
    by_new true = told-row rows s (Some from) origin (Some 0) row there told
    by_new false = told

-- The start

told-new : (rows : List TeRow) (n : NodeId) (ids : List NodeId) → IsTold rows (new_flood n ids)
unfolding AreDueOf
told-new rows n ids = record {
  truth = λ r none. absurd (contains-none r none);
  due = each_mapped (λ k. Unit {0}) (AreDueOf []) (λ k. fresh_neighbour (record { 0 = k }))
      (in_order nat_lt (map (λ (id : NodeId). id.0) ids)) (λ k t e none. absurd (contains-none e none)) (λ k there. tt);
}

told-declared : (rows xs : List TeRow) (s : FloodState) → ((x : TeRow) → Contains xs x → Contains rows x) →
    IsTold rows s → IsTold rows (declared_rows s xs)
told-declared rows [] s among told = told
told-declared rows (x ∷ xs) s among told =
    told-declared rows xs (declared_row s x) (λ y there. among y (contains-tail x y xs there))
    (told-row rows s None s.me None x (among x (contains-head x xs)) told)

-- Every event

record AreTold (rows : List TeRow) (w : FloodNetwork) : Type 0 where
  nodes : (n : ℕ) → IsTold rows (w.nodes n)
  sent : SentIsKnown rows w

told-start : (rows : List TeRow) → AreTold rows (begun rows)
told-start rows = record {
  nodes = λ n. node (record { 0 = n });
  sent = λ u d number origin row none. absurd (contains-none (Row number origin row) none);
}
  where
    node : (n : NodeId) → IsTold rows (declared_rows (new_flood n (nodes_beside rows n)) (own_rows rows n))
    node n = told-declared rows (own_rows rows n) (new_flood n (nodes_beside rows n))
        (λ x there. (kept-there (is_end n) rows x there).0) (told-new rows n (nodes_beside rows n))

-- the node n becomes this, which knows what the node knew and what it sends
told-with-node : (rows : List TeRow) (w : FloodNetwork) (n : ℕ) (s : FloodState) (sends : List (NodeId × FloodMsg)) →
    IsTold rows s → ((r : TeRow) → Contains (w.nodes n).rows r → Contains s.rows r) →
    ((d number : ℕ) (origin : NodeId) (row : TeRow) → Contains (sent_to_node d sends) (Row number origin row) →
    Contains s.rows row) → AreTold rows w → AreTold rows (with_node w n s sends)
told-with-node rows w n s sends told more known all = record {
  nodes = λ m. node m (nat_eq m n);
  sent = λ u d number origin row there. channel u d number origin row (nat_eq u n) refl there;
}
  where
    node : (m : ℕ) (b : Bool) → IsTold rows (cond b s (w.nodes m))
    node m true = told
    node m false = all.nodes m

    channel : (u d number : ℕ) (origin : NodeId) (row : TeRow) (b : Bool) → nat_eq u n ≡ b →
        Contains (cond b (w.channels u d ++ sent_to_node d sends) (w.channels u d)) (Row number origin row) →
        Contains (cond b s (w.nodes u)).rows row
    channel u d number origin row true e there =
        elim (Contains-append_cases (w.channels u d) (sent_to_node d sends) (Row number origin row) there) [
          | inl before ↦ more row
              (subst (λ k. Contains (w.nodes k).rows row) (eqb-true u n e) (all.sent u d number origin row before))
          | inr new ↦ known d number origin row new
        ]
    channel u d number origin row false e there = all.sent u d number origin row there

told-tick : (rows : List TeRow) (w : FloodNetwork) (n : ℕ) → AreTold rows w →
    AreTold rows (with_node w n (ticked_flood (w.nodes n)) (sent_at_tick (w.nodes n)))
told-tick rows w n all =
    told-with-node rows w n (ticked_flood (w.nodes n)) (sent_at_tick (w.nodes n))
    (told-ticked rows (w.nodes n) (all.nodes n))
    (λ r there. there) known all
  where
    known : (d number : ℕ) (origin : NodeId) (row : TeRow) →
        Contains (sent_to_node d (sent_at_tick (w.nodes n))) (Row number origin row) → Contains (w.nodes n).rows row
    known d number origin row there =
        let again = sent_in_tick (w.nodes n) d (Row number origin row) there in
        let same : again.due.row ≡ row = cc (again.is) in
        subst (Contains (w.nodes n).rows) same ((all.nodes n).due again.line again.neighbour again.due again.there)

told-answer : (s : FloodState) (from : NodeId) (number : ℕ) (origin : NodeId) (row : TeRow) (d again : ℕ)
    (o : NodeId) (r : TeRow) →
    Contains (sent_to_node d (sends_after s from (Row number origin row))) (Row again o r) →
    Contains (flood_received s from (Row number origin row)).rows r
told-answer s from number origin row d again o r there =
    elim (sent_after_row s from number origin row d (Row again o r) there) [
      | inl answer ↦ absurd (cc (answer.is))
      | inr first ↦ (let same : row ≡ r = cc (first.is) in
          subst (Contains (flood_received s from (Row number origin row)).rows) same (learnt first.new))
    ]
  where
    learnt : is_new s row ≡ true → Contains (flood_received s from (Row number origin row)).rows row
    learnt new =
        subst (λ b. Contains (cond b (with_row s (Some from) origin (Some 0) row) s).rows row) (sym new)
        (Contains-append_right s.rows (row ∷ []) row (contains-head row []))

told-taken : (rows : List TeRow) (w : FloodNetwork) (d u : NodeId) (k : ℕ) (o : Option FloodMsg) →
    slice_get (w.channels u.0 d.0) k ≡ o → AreTold rows w → AreTold rows (floods_taken w d u o)
told-taken rows w d u k None at all = all
told-taken rows w d u k (Some (Ack number)) at all =
    told-with-node rows w d.0 (flood_received (w.nodes d.0) u (Ack number)) []
    (told-acked rows (w.nodes d.0) u number (all.nodes d.0)) (λ r there. there)
    (λ c n origin row none. absurd (contains-none (Row n origin row) none)) all
told-taken rows w d u k (Some (Row number origin row)) at all =
    let there = there_from_place (w.channels u.0 d.0) k (Row number origin row) at in
    let true-row = (all.nodes u.0).truth row (all.sent u.0 d.0 number origin row there) in
    told-with-node rows w d.0 (flood_received (w.nodes d.0) u (Row number origin row))
    (sends_after (w.nodes d.0) u (Row number origin row))
    (told-received rows (w.nodes d.0) u number origin row true-row (all.nodes d.0))
    (there_on (w.nodes d.0) u (Row number origin row)) (told-answer (w.nodes d.0) u number origin row) all

told-step : (rows : List TeRow) (w : FloodNetwork) (e : FloodEvent) → AreTold rows w → AreTold rows (floods_step w e)
told-step rows w (Tick n) all = told-tick rows w n.0 all
told-step rows w (Take d u k) all = told-taken rows w d u k (slice_get (w.channels u.0 d.0) k) refl all

told-run : (rows : List TeRow) (events : List FloodEvent) (w : FloodNetwork) → AreTold rows w →
    AreTold rows (floods_after w events)
told-run rows [] w all = all
told-run rows (e ∷ es) w all = told-run rows es (floods_step w e) (told-step rows w e all)

pub known-is-true : (rows : List TeRow) (events : List FloodEvent) →
    KnownRowsAreTrue rows (floods_after (begun rows) events)
known-is-true rows events n = ((told-run rows events (begun rows) (told-start rows)).nodes n).truth

pub sent-is-known : (rows : List TeRow) (events : List FloodEvent) → SentIsKnown rows (floods_after (begun rows) events)
sent-is-known rows events = (told-run rows events (begun rows) (told-start rows)).sent

-- Nodes that declared their own rows.
use Rattle.std.proofs.{Common.{◌≡◌, ◌≢◌, inl, inr, ℕ, suc, ◌==◌, nat_lt, Bool, true, false, cond, List, [], ◌∷◌, ◌++◌, get_or, map, refl, sym, ap, ◌∙◌, subst, arith, append_assoc, append-nil, Contains}, lemmas.List.Elements.{All-contains, Contains-append_left, Contains-append_right, Contains-get_or}, lemmas.List.Kept.{AllPairs-cons, AllPairs-filter}}
use Rattle.std.specs.Prelude.{None}
use Rattle.ason_base.specs.{Walks.HaveDistinctLinks, declared.ids.NodeId.NodeId, declared.network.TeRow.TeRow, InOrder.in_order, Network.end_beside}
use Rattle.ason_base.proofs.{Ordered.in_order-has, RisingNumbers.{nat_order, numbers_in_order}, Numbers.equal-is, Members.{contains-cases, contains-head, contains-tail, there-kept, kept-there, there-from_map, there-map, contains-none}}
use Rattle.flood.specs.{declared.messages.FloodMsg.TheVariants.{Row, Ack}, State.{FloodState, declared_row, fresh_neighbour, has_room, is_end, is_known}, Networks.{begun, begun_node, declared_rows, new_flood, nodes_beside, own_rows}, NetworkLaws.{AreRowsOfLinks, OwnCanBeDeclared, StartIsNew}}
use Rattle.flood.proofs.{Members.each_mapped, KnownRows.{known_row, room_for_row, row_of_known}, NodeFacts.{LineFacts, FloodNodeFacts, facts_row}, ChannelFacts.LineFits, RowsGiven.flow_learns, NetworkFacts.{FlowOf, Lasts}}

-- What declaring leaves

pub me_declared : (xs : List TeRow) (s : FloodState) → (declared_rows s xs).me ≡ s.me
me_declared [] s = refl
me_declared (x ∷ xs) s = me_declared xs (declared_row s x)

pub rows_declared : (xs : List TeRow) (s : FloodState) → (declared_rows s xs).rows ≡ s.rows ++ xs
rows_declared [] s = sym (append-nil s.rows)
rows_declared (x ∷ xs) s = rows_declared xs (declared_row s x) ∙ append_assoc s.rows (x ∷ []) xs

-- Links that stand once

apart_head : (x y : TeRow) (xs : List TeRow) → HaveDistinctLinks (x ∷ xs) → Contains xs y → x.link ≢ y.link
apart_head x y xs distinct there same =
    absurd (distinct 0 (suc there.0) y (omega arith) (let within = there.1 in omega arith)
    (same ∙ sym (ap (λ (r : TeRow). r.link) there.2)))

apart_tail : (x : TeRow) (xs : List TeRow) → HaveDistinctLinks (x ∷ xs) → HaveDistinctLinks xs
apart_tail x xs distinct i j d before within = distinct (suc i) (suc j) d (omega arith) (omega arith)

-- the link of a row isn't among those before it
unknown_before : (before : List TeRow) (row : TeRow) (later : List TeRow) → HaveDistinctLinks (before ++ row ∷ later)
    → is_known before row.link ≡ false
unknown_before before row later distinct = by_test (is_known before row.link) refl
  where
    none : (xs : List TeRow) (x : TeRow) → HaveDistinctLinks (xs ++ row ∷ later) → Contains xs x → x.link ≢ row.link
    none [] x d there same = contains-none x there
    none (y ∷ xs) x d there same = elim (contains-cases y x xs there) [
      | inl is ↦ apart_head y row (xs ++ row ∷ later) d
          (Contains-append_right xs (row ∷ later) row (contains-head row later)) (ap (λ (r : TeRow). r.link) is ∙ same)
      | inr after ↦ none xs x (apart_tail y (xs ++ row ∷ later) d) after same
    ]

    by_test : (b : Bool) → is_known before row.link ≡ b → is_known before row.link ≡ false
    by_test true known =
        let found = row_of_known before row.link known in
        absurd (none before found.0 distinct found.1 found.2)
    by_test false unknown = unknown

-- Own rows

own_among : (rows : List TeRow) (n : NodeId) (r : TeRow) → Contains (own_rows rows n) r → Contains rows r
own_among rows n r there = (kept-there (is_end n) rows r there).0

own_distinct : (rows : List TeRow) (n : NodeId) → HaveDistinctLinks rows → HaveDistinctLinks (own_rows rows n)
own_distinct rows n distinct = AllPairs-filter (λ x y. x.link ≢ y.link) (is_end n) rows distinct

-- A new node

fresh_fits : (y : FloodState) (k : ℕ) → LineFits [] y (fresh_neighbour (record { 0 = k }))
fresh_fits y k = record {
  sent = refl;
  due = λ e none. absurd (contains-none e none);
  kept = λ j o r at. absurd (cc (at));
}

flow_new : (n : NodeId) (ids : List NodeId) (y : FloodState) (d : ℕ) → FlowOf (new_flood n ids) y d [] []
flow_new n ids y d = record {
  given = [];
  flow = record {
    lines = λ l there to.
        each_mapped (λ k. Unit {0}) (LineFits [] y) (λ k. fresh_neighbour (record { 0 = k }))
        (in_order nat_lt (map (λ (id : NodeId). id.0) ids))
        (λ k t. fresh_fits y k) (λ k t. tt) l there;
    frames = λ k o r none. absurd (contains-none (Row k o r) none);
    acks = λ k none. absurd (contains-none (Ack k) none);
    spread = λ r none. absurd (contains-none r none);
    backed = λ k o r at. absurd (cc (at));
  };
}

flow_declared : (xs : List TeRow) (s y : FloodState) (d : ℕ) → FlowOf s y d [] []
    → FlowOf (declared_rows s xs) y d [] []
flow_declared [] s y d f = f
flow_declared (x ∷ xs) s y d f =
    flow_declared xs (declared_row s x) y d
    (record {
      given = f.given ++ (s.me, x) ∷ [];
      flow = flow_learns s y d [] [] [] f.given None s.me None x (λ l to. refl)
          (λ k o r none. absurd (contains-none (Row k o r) none)) f.flow;
    })

other_end : (low high n : NodeId) → low.0 ≢ high.0 → ((end_beside low high n).0 == n.0) ≡ false
other_end low high n apart = by_low (low.0 == n.0) refl
  where
    by_high : (b : Bool) → (high.0 == n.0) ≡ b → (low.0 == n.0) ≡ true → (high.0 == n.0) ≡ false
    by_high true e h = absurd (apart (equal-is low.0 n.0 h ∙ sym (equal-is high.0 n.0 e)))
    by_high false e h = e

    by_low : (b : Bool) → (low.0 == n.0) ≡ b → ((cond b high low).0 == n.0) ≡ false
    by_low true h = by_high (high.0 == n.0) refl h
    by_low false h = h

numbers_beside : List TeRow → NodeId → List ℕ
numbers_beside rows n = map (λ (id : NodeId). id.0) (nodes_beside rows n)

facts_new : (rows : List TeRow) → AreRowsOfLinks rows → (n : ℕ)
    → FloodNodeFacts rows n (new_flood (record { 0 = n }) (nodes_beside rows (record { 0 = n })))
unfolding numbers_beside
facts_new rows are n = record {
  me = refl;
  truth = λ r none. absurd (contains-none r none);
  links = λ i j d before within. absurd (omega arith);
  lines = each_mapped (Contains (in_order nat_lt (numbers_beside rows me))) (LineFacts n)
      (λ k. fresh_neighbour (record { 0 = k }))
      (in_order nat_lt (numbers_beside rows me)) line (λ k there. there);
  near = λ id beside. record {
    line = fresh_neighbour (record { 0 = id.0 });
    there = there-map (λ k. fresh_neighbour (record { 0 = k })) (in_order nat_lt (numbers_beside rows me)) id.0
        ((in_order-has nat_lt nat_order (numbers_beside rows me) id.0).1
        (there-map (λ (m : NodeId). m.0) (nodes_beside rows me) id beside));
    is = refl;
  };
}
  where
    me : NodeId
    me = record { 0 = n }

    line : (k : ℕ) → Contains (in_order nat_lt (numbers_beside rows me)) k →
        LineFacts n (fresh_neighbour (record { 0 = k }))
    line k there =
        let number = there-from_map (λ (id : NodeId). id.0) (nodes_beside rows me) k
        ((in_order-has nat_lt nat_order (numbers_beside rows me) k).0 there) in
        let beside = there-from_map (λ (r : TeRow). end_beside r.low r.high me) (own_rows rows me) number.0 number.1 in
        let apart = All-contains (λ (r : TeRow). r.low.0 ≢ r.high.0) rows beside.0 are.apart
        (own_among rows me beside.0 beside.1) in
        let other = other_end beside.0.low beside.0.high me apart in
        record {
          other = subst (λ j. (j == n) ≡ false) (ap (λ (m : NodeId). m.0) beside.2 ∙ number.2) other;
          order = record {
            rising = λ i j d before within. absurd (omega arith);
            below = λ i d within. absurd (omega arith);
          };
        }

facts_declared : (rows : List TeRow) (n : ℕ) (xs : List TeRow) (s : FloodState)
    → ((r : TeRow) → Contains xs r → Contains rows r)
    → HaveDistinctLinks (s.rows ++ xs) → FloodNodeFacts rows n s → FloodNodeFacts rows n (declared_rows s xs)
facts_declared rows n [] s among distinct f = f
facts_declared rows n (x ∷ xs) s among distinct f =
    facts_declared rows n xs (declared_row s x) (λ r there. among r (contains-tail x r xs there))
    (subst HaveDistinctLinks (sym (append_assoc s.rows (x ∷ []) xs)) distinct)
    (facts_row rows n s None s.me None x (among x (contains-head x xs)) (unknown_before s.rows x xs distinct) f)

pub begun_lasts : (rows : List TeRow) → AreRowsOfLinks rows → Lasts rows (begun rows)
begun_lasts rows are = record {
  node = λ n. facts_declared rows n (own_rows rows (record { 0 = n })) (new n) (own_among rows (record { 0 = n }))
      (own_distinct rows (record { 0 = n }) are.search.links) (facts_new rows are n);
  own = λ n. record { own = λ r there end. own n r there end };
  silent = λ n m none. contains-none m none;
  flow = λ u d other. flow_declared (own_rows rows (record { 0 = u })) (new u) (begun_node rows (record { 0 = d })) d
      (flow_new (record { 0 = u }) (nodes_beside rows (record { 0 = u })) (begun_node rows (record { 0 = d })) d);
}
  where
    new : ℕ → FloodState
    new n = new_flood (record { 0 = n }) (nodes_beside rows (record { 0 = n }))

    own : (n : ℕ) (r : TeRow) → Contains rows r → is_end (record { 0 = n }) r ≡ true
        → is_known (begun_node rows (record { 0 = n })).rows r.link ≡ true
    own n r there end =
        subst (λ rs. is_known rs r.link ≡ true) (sym (rows_declared (own_rows rows (record { 0 = n })) (new n)))
        (known_row (own_rows rows (record { 0 = n })) r (there-kept (is_end (record { 0 = n })) rows r there end))

-- What the calls make

pub start_is_new : StartIsNew
start_is_new me ids s start =
    let numbers : start.numbers ≡ in_order nat_lt (map (λ (id : NodeId). id.0) ids) =
    numbers_in_order (map (λ (id : NodeId). id.0) ids) start.numbers start.rising start.same
    in
    start.is ∙ (λ i. record {
      me = me;
      rows = [];
      neighbours =
          map (λ n. fresh_neighbour (record { 0 = n })) (numbers i);
    })

pub own_can_be_declared : OwnCanBeDeclared
own_can_be_declared rows are n before row later split = record {
  own = ap (λ (m : NodeId). is_end m row) (me_declared before new) ∙ (kept-there (is_end n) rows row there).1;
  unknown = subst (λ rs. is_known rs row.link ≡ false) (sym (rows_declared before new)) unknown;
  room = subst (λ rs. has_room rs row ≡ true) (sym (rows_declared before new))
      (room_for_row rows before row are.search.ends are.few
      (λ r h. own_among rows n r (subst (λ xs. Contains xs r) (sym split)
      (Contains-append_left before (row ∷ later) r h)))
      (distinct_before before (row ∷ later) distinct) (own_among rows n row there) unknown);
}
  where
    new : FloodState
    new = new_flood n (nodes_beside rows n)

    there : Contains (own_rows rows n) row
    there = subst (λ xs. Contains xs row) (sym split)
        (Contains-append_right before (row ∷ later) row (contains-head row later))

    distinct : HaveDistinctLinks (before ++ row ∷ later)
    distinct = subst HaveDistinctLinks split (own_distinct rows n are.search.links)

    unknown : is_known before row.link ≡ false
    unknown = unknown_before before row later distinct

    distinct_before : (xs ys : List TeRow) → HaveDistinctLinks (xs ++ ys) → HaveDistinctLinks xs
    distinct_before [] ys d = λ i j e before within. absurd (omega arith)
    distinct_before (x ∷ xs) ys d =
        AllPairs-cons (λ x y. x.link ≢ y.link) x xs
        (λ k e within. apart_head x (get_or xs k e) (xs ++ ys) d
        (Contains-append_left xs ys (get_or xs k e) (Contains-get_or xs k e within)))
        (distinct_before xs ys (apart_tail x (xs ++ ys) d))

-- What lasts between a node x and another node y, which has number d, of the rows that x floods.
use Rattle.std.proofs.{Common.{◌≡◌, ◌⊎◌, inl, inr, ℕ, ◌+◌, ◌==◌, Bool, true, false, cond, not, List, ◌++◌, length, map, refl, sym, ap, ◌∙◌, subst, arith, Contains}, lemmas.List.Elements.Contains-append_cases}
use Rattle.std.specs.{Prelude.Some, List.slice_get}
use Rattle.ason_base.specs.{declared.ids.NodeId.NodeId, declared.network.TeRow.TeRow}
use Rattle.ason_base.proofs.{Numbers.equal-is, Members.{there-kept, kept-there, there-from_map, there-map}}
use Rattle.flood.specs.{declared.due.Due.Due, declared.messages.FloodMsg.FloodMsg, declared.messages.FloodMsg.TheVariants.{Row, Ack}, State.{FloodState, NeighbourState, acked, acked_by, is_known, older_due, older_neighbour, ticked_flood, with_neighbours}}
use Rattle.flood.proofs.{NodeFacts.acked_id, Members.each_mapped}

-- The rows that x gave numbers for y, each with its origin, in order of number.

abbrev pub GivenRows : Type 0
GivenRows = List (NodeId × TeRow)

-- the row of this number, from 1
pub record IsNumberedRow (given : GivenRows) (n : ℕ) (origin : NodeId) (row : TeRow) : Type 0 where
  pub place : ℕ
  pub number : n ≡ place + 1
  pub at : slice_get given place ≡ Some (origin, row)

-- the number is due to the neighbour
pub record IsDueAs (n : ℕ) (l : NeighbourState) : Type 0 where
  pub due : Due
  pub there : Contains l.due due
  pub number : due.number ≡ n

pub record LineFits (given : GivenRows) (y : FloodState) (l : NeighbourState) : Type 0 where
  pub sent : l.sent ≡ length given
  pub due : (e : Due) → Contains l.due e → IsNumberedRow given e.number e.origin e.row
  -- what isn't due any more is known at y
  pub kept : (k : ℕ) (o : NodeId) (r : TeRow) → slice_get given k ≡ Some (o, r)
      → IsDueAs (k + 1) l ⊎ (is_known y.rows r.link ≡ true)

-- y knows the row of this number
pub record IsHeard (given : GivenRows) (y : FloodState) (n : ℕ) : Type 0 where
  pub origin : NodeId
  pub row : TeRow
  pub numbered : IsNumberedRow given n origin row
  pub known : is_known y.rows row.link ≡ true

pub record IsGiven (given : GivenRows) (r : TeRow) : Type 0 where
  pub place : ℕ
  pub origin : NodeId
  pub at : slice_get given place ≡ Some (origin, r)

pub record FloodFlow (x y : FloodState) (d : ℕ) (sent back : List FloodMsg) (given : GivenRows) : Type 0 where
  pub lines : (l : NeighbourState) → Contains x.neighbours l → (l.id.0 == d) ≡ true → LineFits given y l
  pub frames : (n : ℕ) (o : NodeId) (r : TeRow) → Contains sent (Row n o r) → IsNumberedRow given n o r
  pub acks : (n : ℕ) → Contains back (Ack n) → IsHeard given y n
  pub spread : (r : TeRow) → Contains x.rows r → IsGiven given r ⊎ (is_known y.rows r.link ≡ true)
  pub backed : (k : ℕ) (o : NodeId) (r : TeRow) → slice_get given k ≡ Some (o, r) → Contains x.rows r

-- one number is one row
pub one_number : (given : GivenRows) (n : ℕ) (o p : NodeId) (r s : TeRow) → IsNumberedRow given n o r
    → IsNumberedRow given n p s → (o ≡ p) × (r ≡ s)
one_number given n o p r s f g =
    let first : n ≡ f.place + 1 = f.number in
    let second : n ≡ g.place + 1 = g.number in
    let place : f.place ≡ g.place = omega arith in
    let here : slice_get given g.place ≡ Some (o, r) = subst (λ k. slice_get given k ≡ Some (o, r)) place f.at in
    let there : slice_get given g.place ≡ Some (p, s) = g.at in
    let same : ◌≡◌ {A = NodeId × TeRow} (o, r) (p, s) = cc in
    (ap (λ (q : NodeId × TeRow). q.0) same, ap (λ (q : NodeId × TeRow). q.1) same)

-- y changes, and answers

pub flow_far : (x y z : FloodState) (d : ℕ) (sent back ms : List FloodMsg) (given : GivenRows)
    → ((r : TeRow) → is_known y.rows r.link ≡ true → is_known z.rows r.link ≡ true)
    → ((n : ℕ) → Contains ms (Ack n) → IsHeard given z n)
    → FloodFlow x y d sent back given → FloodFlow x z d sent (back ++ ms) given
flow_far x y z d sent back ms given more heard f = record {
  lines = λ l there to.
      let line = f.lines l there to in
      record {
        sent = line.sent;
        due = line.due;
        kept = λ k o r at. elim (line.kept k o r at) [ inl due ↦ inl due | inr known ↦ inr (more r known) ];
      };
  frames = f.frames;
  acks = λ n there. elim (Contains-append_cases back ms (Ack n) there) [
    | inl before ↦
        let h = f.acks n before in
        record { origin = h.origin; row = h.row; numbered = h.numbered; known = more h.row h.known }
    | inr now ↦ heard n now
  ];
  spread = λ r there. elim (f.spread r there) [ inl given ↦ inl given | inr known ↦ inr (more r known) ];
  backed = f.backed;
}

-- x sends what has a number already

pub frames_more : (sent ms : List FloodMsg) (given : GivenRows)
    → ((n : ℕ) (o : NodeId) (r : TeRow) → Contains sent (Row n o r) → IsNumberedRow given n o r)
    → ((n : ℕ) (o : NodeId) (r : TeRow) → Contains ms (Row n o r) → IsNumberedRow given n o r)
    → (n : ℕ) (o : NodeId) (r : TeRow) → Contains (sent ++ ms) (Row n o r) → IsNumberedRow given n o r
frames_more sent ms given old new n o r there =
    elim (Contains-append_cases sent ms (Row n o r) there) [ inl before ↦ old n o r before | inr now ↦ new n o r now ]

pub flow_again : (x y : FloodState) (d : ℕ) (sent back ms : List FloodMsg) (given : GivenRows)
    → ((n : ℕ) (o : NodeId) (r : TeRow) → Contains ms (Row n o r) → IsNumberedRow given n o r)
    → FloodFlow x y d sent back given → FloodFlow x y d (sent ++ ms) back given
flow_again x y d sent back ms given numbered f = record {
  lines = f.lines;
  frames = frames_more sent ms given f.frames numbered;
  acks = f.acks;
  spread = f.spread;
  backed = f.backed;
}

-- x ticks

line_older : (given : GivenRows) (y : FloodState) (l : NeighbourState) → LineFits given y l
    → LineFits given y (older_neighbour l)
line_older given y l f = record {
  sent = f.sent;
  due = each_mapped (λ (e : Due). IsNumberedRow given e.number e.origin e.row)
      (λ (e : Due). IsNumberedRow given e.number e.origin e.row) older_due l.due (λ e p. p) f.due;
  kept = λ k o r at. elim (f.kept k o r at) [
    | inl due ↦
        inl (record {
          due = older_due due.due;
          there = there-map older_due l.due due.due due.there;
          number =
              due.number;
        })
    | inr known ↦ inr known
  ];
}

-- each neighbour is changed by a map that keeps its id
pub lines_mapped : (ns : List NeighbourState) (d : ℕ) (given more : GivenRows) (y : FloodState)
    (g : NeighbourState → NeighbourState)
    → ((l : NeighbourState) → (g l).id ≡ l.id)
    → ((l : NeighbourState) → (l.id.0 == d) ≡ true → LineFits given y l → LineFits more y (g l))
    → ((l : NeighbourState) → Contains ns l → (l.id.0 == d) ≡ true → LineFits given y l)
    → (l : NeighbourState) → Contains (map g ns) l → (l.id.0 == d) ≡ true → LineFits more y l
lines_mapped ns d given more y g same keeps all l there to =
    let q = there-from_map g ns l there in
    let was : (q.0.id.0 == d) ≡ true = ap (λ (i : NodeId). i.0 == d) (sym (same q.0)) ∙
    ap (λ (m : NeighbourState). m.id.0 == d) q.2 ∙ to in
    subst (LineFits more y) q.2 (keeps q.0 was (all q.0 q.1 was))

pub flow_ticked : (x y : FloodState) (d : ℕ) (sent back : List FloodMsg) (given : GivenRows) →
    FloodFlow x y d sent back given
    → FloodFlow (ticked_flood x) y d sent back given
flow_ticked x y d sent back given f = record {
  lines = lines_mapped x.neighbours d given given y older_neighbour (λ l. refl) (λ l to. line_older given y l) f.lines;
  frames = f.frames;
  acks = f.acks;
  spread = f.spread;
  backed = f.backed;
}

-- x takes an acknowledgement

number_off : (number k : ℕ) → (number == k + 1) ≡ false → (n : ℕ) → n ≡ k + 1 → not (n == number) ≡ true
number_off number k other n is = grind arith

line_acked : (given : GivenRows) (y : FloodState) (number : ℕ) (l : NeighbourState) → IsHeard given y number
    → LineFits given y l
    → LineFits given y (acked number l)
line_acked given y number l h f = record {
  sent = f.sent;
  due = λ e there. f.due e (kept-there (λ (d : Due). not (d.number == number)) l.due e there).0;
  kept = λ k o r at. by_number k o r at (number == k + 1) refl;
}
  where
    by_number : (k : ℕ) (o : NodeId) (r : TeRow) → slice_get given k ≡ Some (o, r) → (b : Bool) → (number == k + 1) ≡ b
        → IsDueAs (k + 1) (acked number l) ⊎ (is_known y.rows r.link ≡ true)
    by_number k o r at true e =
        let is : number ≡ k + 1 = equal-is number (k + 1) e in
        let same = one_number given number h.origin o h.row r h.numbered (record { place = k; number = is; at = at }) in
        inr (subst (λ (s : TeRow). is_known y.rows s.link ≡ true) same.1 h.known)
    by_number k o r at false e = elim (f.kept k o r at) [
      | inl due ↦ inl (record {
        due = due.due;
        there = there-kept (λ (d : Due). not (d.number == number)) l.due due.due due.there
            (number_off number k e due.due.number due.number);
        number = due.number;
      })
      | inr known ↦ inr known
    ]

both : (a b c : ℕ) → (a == b) ≡ true → (a == c) ≡ true → (b == c) ≡ true
both a b c h k = grind arith

pub flow_acked : (x y : FloodState) (d : ℕ) (sent back : List FloodMsg) (given : GivenRows) (from : NodeId) (number : ℕ)
    → ((from.0 == d) ≡ true → IsHeard given y number) → FloodFlow x y d sent back given
    → FloodFlow (with_neighbours x (map (acked_by from number) x.neighbours)) y d sent back given
flow_acked x y d sent back given from number heard f = record {
  lines = lines_mapped x.neighbours d given given y (acked_by from number) (acked_id from number) line f.lines;
  frames = f.frames;
  acks = f.acks;
  spread = f.spread;
  backed = f.backed;
}
  where
    line : (l : NeighbourState) → (l.id.0 == d) ≡ true → LineFits given y l → LineFits given y (acked_by from number l)
    line l to fits = by_from (l.id.0 == from.0) refl
      where
        by_from : (b : Bool) → (l.id.0 == from.0) ≡ b → LineFits given y (cond b (acked number l) l)
        by_from true e = line_acked given y number l (heard (both l.id.0 from.0 d e to)) fits
        by_from false e = fits

-- what x sends again has its number
pub again_numbered : (given : GivenRows) (y : FloodState) (l : NeighbourState) (e : Due) (n : ℕ) (o : NodeId)
    (r : TeRow) → LineFits given y l
    → Contains l.due e → Row e.number e.origin e.row ≡ Row n o r → IsNumberedRow given n o r
again_numbered given y l e n o r f there is =
    let number : e.number ≡ n = cc in
    let origin : e.origin ≡ o = cc in
    let row : e.row ≡ r = cc in
    subst (λ k. IsNumberedRow given k o r) number (subst (λ p. IsNumberedRow given e.number p r) origin
    (subst (IsNumberedRow given e.number e.origin) row (f.due e there)))

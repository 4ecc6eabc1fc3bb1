-- What lasts between a node x and another node y where x learns a row.
use Rattle.std.proofs.{Common.{◌≡◌, inl, inr, ℕ, ◌+◌, ◌==◌, true, false, cond, List, [], ◌∷◌, ◌++◌, length, sym, ap, ◌∙◌, subst, arith, Contains}, lemmas.List.length-append, lemmas.List.Elements.{Contains-append_left, Contains-push, Contains-push_cases}}
use Rattle.std.specs.Prelude.{Option, Some}
use Rattle.ason_base.specs.{declared.ids.NodeId.NodeId, declared.network.TeRow.TeRow}
use Rattle.ason_base.proofs.Places.{get-pushed, get-last}
use Rattle.hop_reliable.proofs.Members.{get-append_left}
use Rattle.flood.specs.{declared.due.Due.Due, declared.messages.FloodMsg.FloodMsg, declared.messages.FloodMsg.TheVariants.Row, State.{FloodState, NeighbourState, is_from, is_known, queued, queued_unless, with_row}}
use Rattle.flood.proofs.{NodeFacts.queued_id, ChannelFacts.{FloodFlow, GivenRows, IsNumberedRow, LineFits, frames_more, lines_mapped}}

numbered_more : (given : GivenRows) (new : NodeId × TeRow) (n : ℕ) (o : NodeId) (r : TeRow) → IsNumberedRow given n o r
    → IsNumberedRow (given ++ new ∷ []) n o r
numbered_more given new n o r f =
    record { place = f.place; number = f.number; at = get-append_left given (new ∷ []) f.place (o, r) f.at }

numbered_last : (given : GivenRows) (n : ℕ) (o : NodeId) (r : TeRow) → n ≡ length given
    → IsNumberedRow (given ++ (o, r) ∷ []) (n + 1) o r
numbered_last given n o r e =
    record { place = length given; number = ap (λ k. k + 1) e; at = get-last given (o, r) }

line_queued : (given : GivenRows) (y : FloodState) (origin : NodeId) (age : Option ℕ) (row : TeRow)
    (l : NeighbourState) → LineFits given y l
    → LineFits (given ++ (origin, row) ∷ []) y (queued origin age row l)
line_queued given y origin age row l f = record {
  sent = rw length-append (ap (λ k. k + 1) f.sent);
  due = λ e there. elim (Contains-push_cases l.due new e there) [
    | inl before ↦ numbered_more given (origin, row) e.number e.origin e.row (f.due e before)
    | inr is ↦ subst (λ (d : Due). IsNumberedRow (given ++ (origin, row) ∷ []) d.number d.origin d.row) is
        (numbered_last given l.sent origin row f.sent)
  ];
  kept = λ k o r at. elim (get-pushed given (origin, row) k (o, r) at) [
    | inl before ↦ elim (f.kept k o r before) [
      | inl due ↦ inl (record {
        due = due.due;
        there = Contains-append_left l.due (new ∷ []) due.due due.there;
        number = due.number;
      })
      | inr known ↦ inr known
    ]
    | inr last ↦
        inl (record { due = new; there = Contains-push l.due new; number = ap (λ j. j + 1) (f.sent ∙ sym last.0) })
  ];
}
  where
    new : Due
    new = record { number = l.sent + 1; age = age; origin = origin; row = row }

-- the row came from elsewhere, and goes to y
pub flow_learns : (x y : FloodState) (d : ℕ) (sent back ms : List FloodMsg) (given : GivenRows) (from : Option NodeId)
    (origin : NodeId) (age : Option ℕ) (row : TeRow)
    → ((l : NeighbourState) → (l.id.0 == d) ≡ true → is_from from l ≡ false)
    → ((n : ℕ) (o : NodeId) (r : TeRow) → Contains ms (Row n o r) → IsNumberedRow (given ++ (origin, row) ∷ []) n o r)
    → FloodFlow x y d sent back given → FloodFlow (with_row x from origin age row) y d (sent ++ ms) back
    (given ++ (origin, row) ∷ [])
flow_learns x y d sent back ms given from origin age row other numbered f = record {
  lines = lines_mapped x.neighbours d given (given ++ (origin, row) ∷ []) y (queued_unless from origin age row)
      (queued_id from origin age row) line f.lines;
  frames = frames_more sent ms (given ++ (origin, row) ∷ [])
      (λ n o r there. numbered_more given (origin, row) n o r (f.frames n o r there)) numbered;
  acks = λ n there.
      let h = f.acks n there in
      record {
        origin = h.origin;
        row = h.row;
        numbered = numbered_more given (origin, row) n h.origin h.row h.numbered;
        known = h.known;
      };
  spread = λ r there. elim (Contains-push_cases x.rows row r there) [
    | inl before ↦ elim (f.spread r before) [
      | inl g ↦ inl (record {
        place = g.place;
        origin = g.origin;
        at = get-append_left given ((origin, row) ∷ []) g.place (g.origin, r) g.at;
      })
      | inr known ↦ inr known
    ]
    | inr is ↦ inl (record {
      place = length given;
      origin = origin;
      at = get-last given (origin, row) ∙ ap (λ (s : TeRow). Some (origin, s)) is;
    })
  ];
  backed = λ k o r at. elim (get-pushed given (origin, row) k (o, r) at) [
    | inl before ↦ Contains-append_left x.rows (row ∷ []) r (f.backed k o r before)
    | inr last ↦ subst (Contains (x.rows ++ row ∷ [])) (ap (λ (q : NodeId × TeRow). q.1) last.1)
        (Contains-push x.rows row)
  ];
}
  where
    line : (l : NeighbourState) → (l.id.0 == d) ≡ true → LineFits given y l
        → LineFits (given ++ (origin, row) ∷ []) y (queued_unless from origin age row l)
    line l to fits =
        subst (λ b. LineFits (given ++ (origin, row) ∷ []) y (cond b l (queued origin age row l))) (sym (other l to))
        (line_queued given y origin age row l fits)

-- the row came from y, and doesn't go there
pub flow_told : (x y : FloodState) (d : ℕ) (sent back ms : List FloodMsg) (given : GivenRows) (from origin : NodeId)
    (age : Option ℕ) (row : TeRow)
    → (from.0 == d) ≡ true → is_known y.rows row.link ≡ true
    → ((n : ℕ) (o : NodeId) (r : TeRow) → Contains ms (Row n o r) → IsNumberedRow given n o r)
    → FloodFlow x y d sent back given → FloodFlow (with_row x (Some from) origin age row) y d (sent ++ ms) back given
flow_told x y d sent back ms given from origin age row is known numbered f = record {
  lines = lines_mapped x.neighbours d given given y (queued_unless (Some from) origin age row)
      (queued_id (Some from) origin age row) line f.lines;
  frames = frames_more sent ms given f.frames numbered;
  acks = f.acks;
  spread = λ r there. elim (Contains-push_cases x.rows row r there) [
    | inl before ↦ f.spread r before
    | inr same ↦ inr (subst (λ (s : TeRow). is_known y.rows s.link ≡ true) same known)
  ];
  backed = λ k o r at. Contains-append_left x.rows (row ∷ []) r (f.backed k o r at);
}
  where
    agree : (a b c : ℕ) → (a == c) ≡ true → (b == c) ≡ true → (a == b) ≡ true
    agree a b c h k = grind arith

    line : (l : NeighbourState) → (l.id.0 == d) ≡ true → LineFits given y l
        → LineFits given y (queued_unless (Some from) origin age row l)
    line l to fits = subst (λ b. LineFits given y (cond b l (queued origin age row l)))
        (sym (agree l.id.0 from.0 d to is)) fits

-- what x sends first has the number that it is given
pub first_numbered : (given : GivenRows) (y : FloodState) (l : NeighbourState) (origin : NodeId) (row : TeRow) (n : ℕ)
    (o : NodeId) (r : TeRow)
    → LineFits given y l → Row (l.sent + 1) origin row ≡ Row n o r → IsNumberedRow (given ++ (origin, row) ∷ []) n o r
first_numbered given y l origin row n o r f is =
    let number : l.sent + 1 ≡ n = cc in
    let from : origin ≡ o = cc in
    let same : row ≡ r = cc in
    let last : IsNumberedRow (given ++ (origin, row) ∷ []) (l.sent + 1) origin row =
    numbered_last given l.sent origin row f.sent in
    subst (λ k. IsNumberedRow (given ++ (origin, row) ∷ []) k o r) number
    (subst (λ p. IsNumberedRow (given ++ (origin, row) ∷ []) (l.sent + 1) p r) from
    (subst (IsNumberedRow (given ++ (origin, row) ∷ []) (l.sent + 1) origin) same last))

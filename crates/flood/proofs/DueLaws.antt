-- What is due to a neighbour.
use Rattle.std.proofs.{Common.{◌≡◌, ◌≢◌, ◌≤◌, ℕ, ◌+◌, inl, inr, ◌==◌, Bool, true, false, cond, not, Option, Some, None, List, [], ◌∷◌, ◌++◌, map, filter, refl, sym, ap, subst, ◌∙◌, arith}, lemmas.Option.slice_get-map}
use Rattle.std.specs.{List.slice_get, Option.option_map}
use Rattle.ason_base.specs.{declared.ids.NodeId.NodeId, declared.network.TeRow.TeRow}
use Rattle.ason_base.proofs.Numbers.{equal-not, equal-from, equal-is}
use Rattle.flood.specs.{declared.due.Due.Due, declared.messages.FloodMsg.TheVariants.{Row, Ack}, State.{NeighbourState, FloodState, is_new, is_from, queued, queued_unless, with_row, acked, acked_by, older_due, older_neighbour}, Calls.{Call, Declares, Receives, Ticks, called, after_calls, IsDue, Acknowledges, NoneAcknowledges, DueUntilAcknowledged, NoneAfterwards, AcknowledgedIsOff, GoesToTheOthers}}

-- Rows in a list of due ones.

due-append_left : (k : ℕ) (r : TeRow) (ds es : List Due) → IsDue k r ds → IsDue k r (ds ++ es)
due-append_left k r [] es h = elim h [ ]
due-append_left k r (d ∷ ds) es h = elim h [ inl here ↦ inl here | inr there ↦ inr (due-append_left k r ds es there) ]

due-append_last : (k : ℕ) (r : TeRow) (ds : List Due) (d : Due) → d.number ≡ k → d.row ≡ r → IsDue k r (ds ++ d ∷ [])
due-append_last k r [] d number row = inl (number, row)
due-append_last k r (e ∷ ds) d number row = inr (due-append_last k r ds d number row)

due-append_none : (k : ℕ) (r : TeRow) (ds : List Due) (d : Due) → (IsDue k r ds → ⊥) → d.number ≢ k →
    IsDue k r (ds ++ d ∷ []) → ⊥
due-append_none k r [] d none other h = elim h [ inl here ↦ other here.0 | inr there ↦ there ]
due-append_none k r (e ∷ ds) d none other h =
    elim h [ inl here ↦ none (inl here) | inr there ↦ due-append_none k r ds d (λ later. none (inr later)) other there ]

due-older : (k : ℕ) (r : TeRow) (ds : List Due) → IsDue k r ds → IsDue k r (map older_due ds)
due-older k r [] h = elim h [ ]
due-older k r (d ∷ ds) h = elim h [ inl here ↦ inl here | inr there ↦ inr (due-older k r ds there) ]

older-due : (k : ℕ) (r : TeRow) (ds : List Due) → IsDue k r (map older_due ds) → IsDue k r ds
older-due k r [] h = h
older-due k r (d ∷ ds) h = elim h [ inl here ↦ inl here | inr there ↦ inr (older-due k r ds there) ]

without : ℕ → List Due → List Due
without number ds = filter (λ d. not (d.number == number)) ds

due-without : (k number : ℕ) (r : TeRow) (ds : List Due) → number ≢ k → IsDue k r ds → IsDue k r (without number ds)
unfolding without
due-without k number r [] other h = elim h [ ]
due-without k number r (d ∷ ds) other h =
    elim (d.number == number) as (λ b. (d.number == number) ≡ b →
    IsDue k r (cond (not b) (d ∷ filter (λ e. not (e.number == number)) ds)
    (filter (λ e. not (e.number == number)) ds))) [
      | true ↦ λ off. elim h [
        | inl here ↦ absurd (other (sym (equal-is d.number number off) ∙ here.0))
        | inr there ↦ due-without k number r ds other there
      ]
      | false ↦ λ _. elim h [ inl here ↦ inl here | inr there ↦ inr (due-without k number r ds other there) ]
    ] refl

without-due : (k number : ℕ) (r : TeRow) (ds : List Due) → IsDue k r (without number ds) → IsDue k r ds
unfolding without
without-due k number r [] h = h
without-due k number r (d ∷ ds) h =
    elim (d.number == number) as (λ b. IsDue k r
    (cond (not b) (d ∷ filter (λ e. not (e.number == number)) ds) (filter (λ e. not (e.number == number)) ds)) →
    IsDue k r (d ∷ ds)) [
      | true ↦ λ there. inr (without-due k number r ds there)
      | false ↦ λ kept. elim kept [ inl here ↦ inl here | inr there ↦ inr (without-due k number r ds there) ]
    ] h

without-none : (number : ℕ) (r : TeRow) (ds : List Due) → IsDue number r (without number ds) → ⊥
unfolding without
without-none number r [] h = h
without-none number r (d ∷ ds) h =
    elim (d.number == number) as (λ b. (d.number == number) ≡ b →
    IsDue number r (cond (not b) (d ∷ filter (λ e. not (e.number == number)) ds)
    (filter (λ e. not (e.number == number)) ds)) → ⊥) [
      | true ↦ λ off there. without-none number r ds there
      | false ↦ λ kept_is kept. elim kept [
        | inl here ↦ absurd (let same : (d.number == number) ≡ true = equal-from d.number number here.0 in cc)
        | inr there ↦ without-none number r ds there
      ]
    ] refl h

-- A call at one neighbour.

hop_called : FloodState → Call → NeighbourState → NeighbourState
hop_called s (Declares row) n = queued_unless None s.me None row n
hop_called s (Receives from (Ack number)) n = acked_by from number n
hop_called s (Receives from (Row number origin row)) n =
    cond (is_new s row) (queued_unless (Some from) origin (Some 0) row n) n
hop_called s Ticks n = older_neighbour n

mapped_at : (f : NeighbourState → NeighbourState) (ns : List NeighbourState) (place : ℕ) (n : NeighbourState) →
    slice_get ns place ≡ Some n → slice_get (map f ns) place ≡ Some (f n)
mapped_at f ns place n here = slice_get-map f ns place ∙ ap (option_map f) here

called_at : (s : FloodState) (c : Call) (place : ℕ) (n : NeighbourState) → slice_get s.neighbours place ≡ Some n →
    slice_get (called s c).neighbours place ≡ Some (hop_called s c n)
unfolding hop_called
called_at s (Declares row) place n here = mapped_at (queued_unless None s.me None row) s.neighbours place n here
called_at s (Receives from (Ack number)) place n here = mapped_at (acked_by from number) s.neighbours place n here
called_at s (Receives from (Row number origin row)) place n here =
    elim (is_new s row) as (λ b. slice_get (cond b (with_row s (Some from) origin (Some 0) row) s).neighbours place ≡
    Some (cond b (queued_unless (Some from) origin (Some 0) row n) n)) [
      | true ↦ mapped_at (queued_unless (Some from) origin (Some 0) row) s.neighbours place n here
      | false ↦ here
    ]
called_at s Ticks place n here = mapped_at older_neighbour s.neighbours place n here

-- what stays of a neighbour's rows
record Stays (number : ℕ) (row : TeRow) (n m : NeighbourState) : Type 0 where
  pub id : m.id ≡ n.id
  pub due : IsDue number row m.due

stays-queued : (from : Option NodeId) (origin : NodeId) (age : Option ℕ) (new row : TeRow) (number : ℕ)
    (n : NeighbourState) → IsDue number row n.due → Stays number row n (queued_unless from origin age new n)
stays-queued from origin age new row number n due =
    elim (is_from from n) as (λ b. Stays number row n (cond b n (queued origin age new n))) [
      | true ↦ record { id = refl; due = due }
      | false ↦ record {
        id = refl;
        due = due-append_left number row n.due
            (record { number = n.sent + 1; age = age; origin = origin; row = new } ∷ []) due;
      }
    ]

stays : (s : FloodState) (c : Call) (n : NeighbourState) (number : ℕ) (row : TeRow) → IsDue number row n.due →
    (Acknowledges n.id number c → ⊥) → Stays number row n (hop_called s c n)
unfolding hop_called without
stays s (Declares new) n number row due none = stays-queued None s.me None new row number n due
stays s (Receives from (Ack k)) n number row due none =
    elim (n.id.0 == from.0) as (λ b. (n.id.0 == from.0) ≡ b → Stays number row n (cond b (acked k n) n)) [
      | true ↦ λ same. record {
        id = refl;
        due = due-without number k row n.due
            (λ is. none (equal-is n.id.0 from.0 same, is)) due;
      }
      | false ↦ λ _. record { id = refl; due = due }
    ] refl
stays s (Receives from (Row k origin new)) n number row due none =
    elim (is_new s new) as (λ b. Stays number row n (cond b (queued_unless (Some from) origin (Some 0) new n) n)) [
      | true ↦ stays-queued (Some from) origin (Some 0) new row number n due
      | false ↦ record { id = refl; due = due }
    ]
stays s Ticks n number row due none = record { id = refl; due = due-older number row n.due due }

pub due_until_acknowledged : DueUntilAcknowledged
due_until_acknowledged s [] place n number row here due none = (n, here, refl, due)
due_until_acknowledged s (c ∷ cs) place n number row here due none =
    let st : Stays number row n (hop_called s c n) = stays s c n number row due none.0 in
    let rest = due_until_acknowledged (called s c) cs place (hop_called s c n) number row
    (called_at s c place n here) st.due (subst (λ (id : NodeId). NoneAcknowledges id number cs)
    (sym st.id) none.1) in
    (rest.0, rest.1, rest.2 ∙ st.id, rest.3)

-- what is gone stays gone
record Gone (number : ℕ) (m : NeighbourState) : Type 0 where
  pub given : number ≤ m.sent
  pub none : (row : TeRow) → IsDue number row m.due → ⊥

gone-queued : (from : Option NodeId) (origin : NodeId) (age : Option ℕ) (new : TeRow) (number : ℕ)
    (n : NeighbourState) → Gone number n → Gone number (queued_unless from origin age new n)
gone-queued from origin age new number n g =
    let given : number ≤ n.sent = g.given in
    elim (is_from from n) as (λ b. Gone number (cond b n (queued origin age new n))) [
      | true ↦ g
      | false ↦ record {
        given = omega arith;
        none = λ row. due-append_none number row n.due
            (record { number = n.sent + 1; age = age; origin = origin; row = new }) (g.none row) (omega arith);
      }
    ]

gone : (s : FloodState) (c : Call) (n : NeighbourState) (number : ℕ) → Gone number n → Gone number (hop_called s c n)
unfolding hop_called without
gone s (Declares new) n number g = gone-queued None s.me None new number n g
gone s (Receives from (Ack k)) n number g =
    elim (n.id.0 == from.0) as (λ b. Gone number (cond b (acked k n) n)) [
      | true ↦ record { given = g.given; none = λ row due. g.none row (without-due number k row n.due due) }
      | false ↦ g
    ]
gone s (Receives from (Row k origin new)) n number g =
    elim (is_new s new) as (λ b. Gone number (cond b (queued_unless (Some from) origin (Some 0) new n) n)) [
      | true ↦ gone-queued (Some from) origin (Some 0) new number n g
      | false ↦ g
    ]
gone s Ticks n number g = record { given = g.given; none = λ row due. g.none row (older-due number row n.due due) }

gone_after : (s : FloodState) (calls : List Call) (place : ℕ) (n : NeighbourState) (number : ℕ) →
    slice_get s.neighbours place ≡ Some n → Gone number n →
    (m : NeighbourState) × (slice_get (after_calls s calls).neighbours place ≡ Some m) × Gone number m
gone_after s [] place n number here g = (n, here, g)
gone_after s (c ∷ cs) place n number here g =
    gone_after (called s c) cs place (hop_called s c n) number (called_at s c place n here) (gone s c n number g)

pub none_afterwards : NoneAfterwards
none_afterwards s calls place n number here given none =
    let last = gone_after s calls place n number here (record { given = given; none = none }) in
    (last.0, last.1, last.2.none)

pub acknowledged_is_off : AcknowledgedIsOff
unfolding without
acknowledged_is_off s from number place n here same = (
  acked number n,
  mapped_at (acked_by from number) s.neighbours place n here ∙
      ap Some (acked_here from number n same),
  λ row. without-none number row n.due,
)
  where
    acked_here : (f : NodeId) (k : ℕ) (m : NeighbourState) → m.id.0 ≡ f.0 → acked_by f k m ≡ acked k m
    acked_here f k m is = rw (equal-from m.id.0 f.0 is) refl

others_queued : (from origin : NodeId) (row : TeRow) (n : NeighbourState) → n.id.0 ≢ from.0 →
    IsDue (n.sent + 1) row (queued_unless (Some from) origin (Some 0) row n).due
others_queued from origin row n other =
    subst (λ b. IsDue (n.sent + 1) row (cond b n (queued origin (Some 0) row n)).due)
    (sym (equal-not n.id.0 from.0 other))
    (due-append_last (n.sent + 1) row n.due
    (record { number = n.sent + 1; age = Some 0; origin = origin; row = row }) refl refl)

from_unchanged : (from origin : NodeId) (row : TeRow) (n : NeighbourState) → n.id.0 ≡ from.0 →
    queued_unless (Some from) origin (Some 0) row n ≡ n
from_unchanged from origin row n same = ap (λ (b : Bool). cond b n (queued origin (Some 0) row n))
    (equal-from n.id.0 from.0 same)

pub goes_to_the_others : GoesToTheOthers
goes_to_the_others s from origin number place row n new here = (
  queued_unless (Some from) origin (Some 0) row n,
  ap (λ (b : Bool). slice_get (cond b (with_row s (Some from) origin (Some 0) row) s).neighbours place) new ∙
      mapped_at (queued_unless (Some from) origin (Some 0) row) s.neighbours place n here,
  others_queued from origin row n,
  from_unchanged from origin row n,
)

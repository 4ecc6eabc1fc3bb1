-- Taking a frame that the other end made keeps what lasts between the two ends.
use Rattle.std.proofs.{Common.{◌≡◌, ℕ, ◌+◌, ◌<◌, ◌≤◌, inl, inr, true, false, cond, not, Option, Some, None, List, [], ◌∷◌, ◌++◌, length, refl, subst, arith, add-one}, lemmas.List.append-nil, ByRecursion.All-append, lemmas.Option.slice_get_within}
use Rattle.std.specs.List.{AllByRecursion, slice_get, list_any}
use Rattle.ason_base.specs.{declared.messages.Msg.Msg, declared.messages.MsgId.MsgId, declared.messages.Packet.Packet}
use Rattle.hop_reliable.specs.{declared.heard.Heard.Heard, declared.heard.Heard.TheVariants.{Acked, Unnumbered, Ahead, Repeat, Next}, declared.unacked.Unacked.Unacked, Hop.{is_ack_of, is_acked, still_unacked, heard_number, heard_as, handed_up_after, handed_up_of, ack_of, answers_to}, Schedules.{HopEnd, end_takes}}
use Rattle.hop_reliable.proofs.{Members.{each-more, take_next}, Flow.{IsNumbered, IsOwnFrame, AcksUpTo, WaitsAsGiven, Has, Flow, flow-beside}}

-- The end that takes a frame, as the sender: it takes off what the frame acknowledges.

waits-left : (given : List Msg) (acks : List MsgId) (ws : List Unacked) → AllByRecursion (WaitsAsGiven given) ws →
    AllByRecursion (WaitsAsGiven given) (still_unacked acks ws)
waits-left given acks [] f = tt
waits-left given acks (w ∷ ws) f =
    elim (is_acked acks w) as (λ off. AllByRecursion (WaitsAsGiven given)
    (cond (not off) (w ∷ still_unacked acks ws) (still_unacked acks ws))) [
      | true ↦ waits-left given acks ws f.1
      | false ↦ (f.0, waits-left given acks ws f.1)
    ]

-- a message that the frame doesn't acknowledge stays
has-left : (n : ℕ) (m : Msg) (acks : List MsgId) (ws : List Unacked) → (list_any (is_ack_of n) acks ≡ true → ⊥) →
    Has n m ws → Has n m (still_unacked acks ws)
has-left n m acks [] not_acked h = elim h [ ]
has-left n m acks (w ∷ ws) not_acked h =
    elim (is_acked acks w) as (λ off. is_acked acks w ≡ off →
    Has n m (cond (not off) (w ∷ still_unacked acks ws) (still_unacked acks ws))) [
      | true ↦ λ acked. elim h [
        | inl here ↦ absurd (not_acked (subst (λ k. list_any (is_ack_of k) acks ≡ true) here.0 acked))
        | inr there ↦ has-left n m acks ws not_acked there
      ]
      | false ↦ λ _. elim h [ inl here ↦ inl here | inr there ↦ inr (has-left n m acks ws not_acked there) ]
    ] refl

own-answers : (given : List Msg) (v : Heard) (p : Packet) → AllByRecursion (IsOwnFrame given) (answers_to v p)
own-answers given Next p = (record { own = λ id m is_id is_body. absurd (cc) }, tt)
own-answers given Repeat p = (record { own = λ id m is_id is_body. absurd (cc) }, tt)
own-answers given Acked p = tt
own-answers given Unnumbered p = tt
own-answers given Ahead p = tt

pub flow-takes_from : (x y : HopEnd) (p : Packet) → AcksUpTo y.hop.handed_up p → Flow x y →
    Flow (end_takes (Some p) x) y
flow-takes_from x y p acks f = record {
  count = f.count;
  prefix = f.prefix;
  within = f.within;
  own = All-append (IsOwnFrame x.given) x.frames (answers_to (heard_as x.hop p) p) f.own
      (own-answers x.given (heard_as x.hop p) p);
  waiting = waits-left x.given p.acks x.hop.unacked f.waiting;
  kept = λ k m there above.
      has-left (k + 1) m p.acks x.hop.unacked
      (λ acked. let low : k + 1 ≤ y.hop.handed_up = acks.up_to (k + 1) acked in absurd (omega arith))
      (f.kept k m there above);
  acks = f.acks;
}

-- The end that takes a frame, as the receiver. What it does by how the frame is heard:

taken_as : Heard → Packet → HopEnd → HopEnd
taken_as v p e = record {
  hop = record {
    sent = e.hop.sent;
    handed_up = handed_up_after e.hop.handed_up v;
    unacked =
        still_unacked p.acks e.hop.unacked;
  };
  given = e.given;
  up = e.up ++ handed_up_of v p;
  frames = e.frames ++ answers_to v p;
}

-- what the answer says of the frame
Judged : List Msg → ℕ → Heard → Packet → Type 0
Judged given last Next p = (m : Msg) × (p.body ≡ Some m) × (slice_get given last ≡ Some m) ×
    AcksUpTo (last + 1) (ack_of p)
Judged given last Repeat p = AcksUpTo last (ack_of p)
Judged given last Acked p = Unit {0}
Judged given last Unnumbered p = Unit {0}
Judged given last Ahead p = Unit {0}

acks-more : (n k : ℕ) → n ≤ k → (p : Packet) → AcksUpTo n p → AcksUpTo k p
acks-more n k h p f = record { up_to = λ number acked. let low : number ≤ n = f.up_to number acked in omega arith }

unchanged : (x y : HopEnd) (p : Packet) → Flow x y → Flow x (record {
  hop = record { sent = y.hop.sent; handed_up = y.hop.handed_up; unacked = still_unacked p.acks y.hop.unacked };
  given = y.given;
  up = y.up ++ [];
  frames = y.frames ++ [];
})
unchanged x y p f =
    flow-beside x y _ _ _ _ (y.frames ++ []) (append-nil y.up) f (rw append-nil f.acks)

flow-taken : (x y : HopEnd) (v : Heard) (p : Packet) → Judged x.given y.hop.handed_up v p → Flow x y →
    Flow x (taken_as v p y)
unfolding Judged taken_as
flow-taken x y Next p j f =
    let less : y.hop.handed_up < length x.given = slice_get_within x.given y.hop.handed_up j.0 j.2 in
    record {
      count = f.count;
      prefix = rw (add-one, take_next x.given y.hop.handed_up j.0 j.2, ← f.prefix, j.1) refl;
      within = omega arith;
      own = f.own;
      waiting = f.waiting;
      kept = λ k m there above. f.kept k m there (omega arith);
      acks = All-append (AcksUpTo (y.hop.handed_up + 1)) y.frames (ack_of p ∷ [])
          (each-more (AcksUpTo y.hop.handed_up) (AcksUpTo (y.hop.handed_up + 1))
          (acks-more y.hop.handed_up (y.hop.handed_up + 1) (omega arith)) y.frames f.acks)
          (j.3, tt);
    }
flow-taken x y Repeat p j f =
    flow-beside x y _ _ _ _ _ (append-nil y.up) f
    (All-append (AcksUpTo y.hop.handed_up) y.frames (ack_of p ∷ []) f.acks (j, tt))
flow-taken x y Acked p j f = unchanged x y p f
flow-taken x y Unnumbered p j f = unchanged x y p f
flow-taken x y Ahead p j f = unchanged x y p f

acks-ack : (last : ℕ) (id : MsgId) (acks : List MsgId) (body : Option Msg) → id.number ≤ last →
    AcksUpTo last (ack_of (record { id = Some id; acks = acks; body = body }))
acks-ack last id acks body low = record { up_to = λ number acked. grind arith }

judged-next : (last epoch number : ℕ) → heard_number last (record { epoch = epoch; number = number }) ≡ Next →
    number ≡ last + 1
judged-next last epoch number h = grind arith

judged-repeat : (last epoch number : ℕ) → heard_number last (record { epoch = epoch; number = number }) ≡ Repeat →
    number ≤ last
judged-repeat last epoch number h = grind arith

judged-number : (given : List Msg) (last : ℕ) (id : MsgId) (acks : List MsgId) (m : Msg) (v : Heard) →
    heard_number last id ≡ v → IsNumbered given id.number m →
    Judged given last v (record { id = Some id; acks = acks; body = Some m })
unfolding Judged
judged-number given last id acks m Next h f =
    let is_next : id.number ≡ last + 1 = judged-next last id.epoch id.number h in
    let at_last : f.place ≡ last = let place : id.number ≡ f.place + 1 = f.number in omega arith in (
      m,
      refl,
      subst (λ k. slice_get given k ≡ Some m) at_last f.message,
      acks-ack (last + 1) id acks (Some m) (omega arith),
    )
judged-number given last id acks m Repeat h f = acks-ack last id acks (Some m) (judged-repeat last id.epoch id.number h)
judged-number given last id acks m Acked h f = tt
judged-number given last id acks m Unnumbered h f = tt
judged-number given last id acks m Ahead h f = tt

by_parts : (x y : HopEnd) (id : Option MsgId) (acks : List MsgId) (body : Option Msg) →
    IsOwnFrame x.given (record { id = id; acks = acks; body = body }) → Flow x y →
    Flow x (end_takes (Some (record { id = id; acks = acks; body = body })) y)
unfolding Judged taken_as
by_parts x y id acks None own f = flow-taken x y Acked (record { id = id; acks = acks; body = None }) tt f
by_parts x y None acks (Some m) own f = flow-taken x y Unnumbered
    (record { id = None; acks = acks; body = Some m }) tt f
by_parts x y (Some id) acks (Some m) own f =
    flow-taken x y (heard_number y.hop.handed_up id) (record { id = Some id; acks = acks; body = Some m })
    (judged-number x.given y.hop.handed_up id acks m (heard_number y.hop.handed_up id) refl (own.own id m refl refl)) f

pub flow-takes_to : (x y : HopEnd) (p : Packet) → IsOwnFrame x.given p → Flow x y → Flow x (end_takes (Some p) y)
flow-takes_to x y p own f = by_parts x y p.id p.acks p.body own f

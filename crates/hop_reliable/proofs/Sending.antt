-- Sending and ticking keep what lasts between the two ends.
use Rattle.std.proofs.{Common.{◌≡◌, ℕ, ◌+◌, ◌≤◌, inl, inr, true, false, cond, Some, List, [], ◌∷◌, ◌++◌, length, map, refl, ap, sym, ◌∙◌, arith, length-append}, lemmas.List.take-append-le, ByRecursion.All-append}
use Rattle.std.specs.List.{AllByRecursion, filter}
use Rattle.ason_base.specs.{declared.messages.Msg.Msg, declared.messages.Packet.Packet}
use Rattle.ason_base.proofs.Places.{get-last, get-pushed}
use Rattle.hop_reliable.specs.{declared.unacked.Unacked.Unacked, Ages.is_due, Hop.{numbered, older, again, resent}, Schedules.{HopEnd, end_sends, end_ticks}}
use Rattle.hop_reliable.proofs.{Members.{each-more, get-append_left}, Flow.{IsNumbered, IsOwnFrame, AcksUpTo, WaitsAsGiven, Has, Flow, flow-beside}}

-- With one more message.

numbered-more : (given : List Msg) (new : Msg) (n : ℕ) (m : Msg) → IsNumbered given n m →
    IsNumbered (given ++ new ∷ []) n m
numbered-more given new n m f = record {
  place = f.place;
  number = f.number;
  message =
      get-append_left given (new ∷ []) f.place m f.message;
}

numbered-new : (given : List Msg) (new : Msg) (n : ℕ) → n ≡ length given + 1 → IsNumbered (given ++ new ∷ []) n new
numbered-new given new n e = record { place = length given; number = e; message = get-last given new }

own-more : (given : List Msg) (new : Msg) (p : Packet) → IsOwnFrame given p → IsOwnFrame (given ++ new ∷ []) p
own-more given new p f = record {
  own = λ id m is_id is_body. numbered-more given new id.number m
      (f.own id m is_id is_body);
}

waits-more : (given : List Msg) (new : Msg) (w : Unacked) → WaitsAsGiven given w → WaitsAsGiven (given ++ new ∷ []) w
waits-more given new w f = record { numbered = numbered-more given new w.number w.msg f.numbered }

-- a message with its number is the sender's own
pub own-numbered : (given : List Msg) (n : ℕ) (m : Msg) → IsNumbered given n m → IsOwnFrame given (numbered n m)
own-numbered given n m f = record {
  own = λ id m' is_id is_body.
      let same_number : id.number ≡ n = cc in
      let same_message : m ≡ m' = cc in
      record { place = f.place; number = same_number ∙ f.number; message = f.message ∙ ap Some same_message };
}

-- a frame with a message acknowledges nothing
pub acks-numbered : (last n : ℕ) (m : Msg) → AcksUpTo last (numbered n m)
acks-numbered last n m = record { up_to = λ number acked. absurd (cc) }

has-append_left : (n : ℕ) (m : Msg) (ws vs : List Unacked) → Has n m ws → Has n m (ws ++ vs)
has-append_left n m [] vs h = elim h [ ]
has-append_left n m (w ∷ ws) vs h = elim h [ inl here ↦ inl here | inr there ↦ inr (has-append_left n m ws vs there) ]

has-append_last : (n : ℕ) (m : Msg) (ws : List Unacked) (w : Unacked) → w.number ≡ n → w.msg ≡ m →
    Has n m (ws ++ w ∷ [])
has-append_last n m [] w number message = inl (number, message)
has-append_last n m (v ∷ ws) w number message = inr (has-append_last n m ws w number message)

pub flow-sends_from : (x y : HopEnd) (new : Msg) → Flow x y → Flow (end_sends new x) y
flow-sends_from x y new f =
    let next : x.hop.sent + 1 ≡ length x.given + 1 = ap (λ n. n + 1) f.count in
    let is_new : IsNumbered (x.given ++ new ∷ []) (x.hop.sent + 1) new =
    numbered-new x.given new (x.hop.sent + 1) next in
    let within : y.hop.handed_up ≤ length x.given = f.within in
    record {
      count = rw length-append next;
      prefix = f.prefix ∙ sym (take-append-le y.hop.handed_up x.given (new ∷ []) within);
      within = rw length-append (omega arith);
      own = All-append (IsOwnFrame (x.given ++ new ∷ [])) x.frames (numbered (x.hop.sent + 1) new ∷ [])
          (each-more (IsOwnFrame x.given) (IsOwnFrame (x.given ++ new ∷ [])) (own-more x.given new) x.frames f.own)
          (own-numbered (x.given ++ new ∷ []) (x.hop.sent + 1) new is_new, tt);
      waiting = All-append (WaitsAsGiven (x.given ++ new ∷ [])) x.hop.unacked
          (record { number = x.hop.sent + 1; age = 0; msg = new } ∷ [])
          (each-more (WaitsAsGiven x.given) (WaitsAsGiven (x.given ++ new ∷ [])) (waits-more x.given new) x.hop.unacked
          f.waiting)
          (record { numbered = is_new }, tt);
      kept = λ k m there above.
          elim (get-pushed x.given new k m there) [
            | inl before ↦ has-append_left (k + 1) m x.hop.unacked
                (record { number = x.hop.sent + 1; age = 0; msg = new } ∷ []) (f.kept k m before above)
            | inr last ↦ has-append_last (k + 1) m x.hop.unacked
                (record { number = x.hop.sent + 1; age = 0; msg = new })
                (next ∙ ap (λ n. n + 1) (sym last.0)) last.1
          ];
      acks = f.acks;
    }

pub flow-sends_to : (x y : HopEnd) (new : Msg) → Flow x y → Flow x (end_sends new y)
flow-sends_to x y new f =
    flow-beside x y _ _ _ _ _ refl f
    (All-append (AcksUpTo y.hop.handed_up) y.frames (numbered (y.hop.sent + 1) new ∷ []) f.acks
    (acks-numbered y.hop.handed_up (y.hop.sent + 1) new, tt))

-- A tick.

waits-older : (given : List Msg) (ws : List Unacked) → AllByRecursion (WaitsAsGiven given) ws →
    AllByRecursion (WaitsAsGiven given) (map older ws)
waits-older given [] f = tt
waits-older given (w ∷ ws) f = (record { numbered = f.0.numbered }, waits-older given ws f.1)

has-older : (n : ℕ) (m : Msg) (ws : List Unacked) → Has n m ws → Has n m (map older ws)
has-older n m [] h = elim h [ ]
has-older n m (w ∷ ws) h = elim h [ inl here ↦ inl here | inr there ↦ inr (has-older n m ws there) ]

-- what goes again is the sender's own
own-again : (given : List Msg) (ws : List Unacked) → AllByRecursion (WaitsAsGiven given) ws →
    AllByRecursion (IsOwnFrame given) (again ws)
own-again given [] f = tt
own-again given (w ∷ ws) f =
    elim (is_due w.age) as (λ due. AllByRecursion (IsOwnFrame given)
    (map (λ v. numbered v.number v.msg) (cond due (w ∷ filter (λ v. is_due v.age) ws)
    (filter (λ v. is_due v.age) ws)))) [
      | true ↦ (own-numbered given w.number w.msg f.0.numbered, own-again given ws f.1)
      | false ↦ own-again given ws f.1
    ]

acks-again : (last : ℕ) (ws : List Unacked) → AllByRecursion (AcksUpTo last) (again ws)
acks-again last [] = tt
acks-again last (w ∷ ws) =
    elim (is_due w.age) as (λ due. AllByRecursion (AcksUpTo last)
    (map (λ v. numbered v.number v.msg) (cond due (w ∷ filter (λ v. is_due v.age) ws)
    (filter (λ v. is_due v.age) ws)))) [
      | true ↦ (acks-numbered last w.number w.msg, acks-again last ws)
      | false ↦ acks-again last ws
    ]

pub flow-ticks_from : (x y : HopEnd) → Flow x y → Flow (end_ticks x) y
flow-ticks_from x y f = record {
  count = f.count;
  prefix = f.prefix;
  within = f.within;
  own = All-append (IsOwnFrame x.given) x.frames (resent x.hop) f.own
      (own-again x.given (map older x.hop.unacked) (waits-older x.given x.hop.unacked f.waiting));
  waiting = waits-older x.given x.hop.unacked f.waiting;
  kept = λ k m there above. has-older (k + 1) m x.hop.unacked (f.kept k m there above);
  acks = f.acks;
}

pub flow-ticks_to : (x y : HopEnd) → Flow x y → Flow x (end_ticks y)
flow-ticks_to x y f =
    flow-beside x y _ _ _ _ _ refl f (All-append (AcksUpTo y.hop.handed_up) y.frames (resent y.hop) f.acks
    (acks-again y.hop.handed_up (map older y.hop.unacked)))

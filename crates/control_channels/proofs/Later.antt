-- Messages that are sent after a packet was taken, or after a tick, have the numbers that they were prepared with.
use Rattle.std.proofs.Common.{◌≡◌, ◌≤◌, ◌<◌, ◌+◌, ◌-◌, ◌^◌, ℕ, Bool, true, false, cond, nat_eq, List, [], ◌∷◌, ◌++◌, length, refl, sym, ap, ◌∙◌, arith, append_assoc, append-nil}
use Rattle.ason_base.specs.{declared.ids.NodeId.NodeId, declared.tables.Out.Out}
use Rattle.flood.specs.declared.frames.Content.TheVariants.{Message}
use Rattle.hop_reliable.specs.{declared.unacked.Unacked.Unacked, Hop.{HopState, all_sent, numbered, sent_message}}
use Rattle.mesh_nodes.specs.{LocalNodes.is_neighbour, Sent.{AllToNeighbours, AllWritable}}
use Rattle.mesh_rules.specs.LocalNodes.{LocalNode}
use Rattle.control_channels.specs.{Adjacencies.{AllCanGo, packets_on, sent_on, sent_one}, Frames.Sending}

-- what is prepared for d where n is the last number
abbrev pub entries : ℕ → ℕ → List Out → List Unacked
entries d n [] = []
entries d n (o ∷ outs) =
    cond (nat_eq d o.to.0) (record { number = n + 1; age = 0; msg = o.msg } ∷ entries d (n + 1) outs) (entries d n outs)

abbrev pub with-entries : HopState → List Unacked → HopState
with-entries h ws = all_sent (record { state = h; prepared = ws })

one-more : (h : HopState) (w : Unacked) (ws : List Unacked) →
    with-entries (record { sent = h.sent + 1; handed_up = h.handed_up; unacked = h.unacked ++ w ∷ [] }) ws ≡
    with-entries h (w ∷ ws)
one-more h w ws =
    let count : (h.sent + 1) + length ws ≡ h.sent + length (w ∷ ws) = omega arith in
    λ i. record { sent = count i; handed_up = h.handed_up; unacked = append_assoc h.unacked (w ∷ []) ws i }

no-more : (h : HopState) → h ≡ with-entries h []
no-more h =
    let count : h.sent ≡ h.sent + 0 = omega arith in
    λ i. record { sent = count i; handed_up = h.handed_up; unacked = sym (append-nil h.unacked) i }

pub sent-entries : (outs : List Out) (hops : ℕ → HopState) (d : ℕ) →
    sent_on hops outs d ≡ with-entries (hops d) (entries d (hops d).sent outs)
sent-entries [] hops d = no-more (hops d)
sent-entries (o ∷ outs) hops d = go (sent-entries outs (sent_one hops o) d) (nat_eq d o.to.0) refl
  where
    later : sent_on (sent_one hops o) outs d ≡ with-entries (sent_one hops o d)
        (entries d (sent_one hops o d).sent outs) →
        (h : HopState) → sent_one hops o d ≡ h → sent_on (sent_one hops o) outs d ≡ with-entries h
        (entries d h.sent outs)
    later rest h e = rest ∙ ap (λ (x : HopState). with-entries x (entries d x.sent outs)) e

    go : sent_on (sent_one hops o) outs d ≡ with-entries (sent_one hops o d) (entries d (sent_one hops o d).sent outs) →
        (b : Bool) → nat_eq d o.to.0 ≡ b →
        sent_on (sent_one hops o) outs d
        ≡ with-entries (hops d) (cond b (record { number = (hops d).sent + 1; age = 0; msg = o.msg } ∷ entries d
        ((hops d).sent + 1) outs) (entries d (hops d).sent outs))
    go rest true e =
        later rest (sent_message (hops d) o.msg) (rw e refl)
        ∙ one-more (hops d) (record { number = (hops d).sent + 1; age = 0; msg = o.msg })
        (entries d ((hops d).sent + 1) outs)
    go rest false e = later rest (hops d) (rw e refl)

tails : (xs : List Unacked) (ys zs : List Unacked) → xs ++ ys ≡ xs ++ zs → ys ≡ zs
tails [] ys zs e = e
tails (x ∷ xs) ys zs e = tails xs ys zs (cc e)

-- what was prepared for a hop is sent alike where the hop has changed, but for its last number
pub sent-later : (hops after : ℕ → HopState) (outs : List Out) (d : ℕ) (prepared : List Unacked) →
    all_sent (record { state = hops d; prepared = prepared }) ≡ sent_on hops outs d → (after d).sent ≡ (hops d).sent →
    all_sent (record { state = after d; prepared = prepared }) ≡ sent_on after outs d
sent-later hops after outs d prepared e same =
    let whole : with-entries (hops d) prepared ≡ with-entries (hops d) (entries d (hops d).sent outs) = e ∙
    sent-entries outs hops d in
    let are : prepared ≡ entries d (hops d).sent outs =
    tails (hops d).unacked prepared (entries d (hops d).sent outs) (ap (λ (h : HopState). h.unacked) whole) in
    ap (λ ws. with-entries (after d) ws) are
    ∙ ap (λ n. with-entries (after d) (entries d n outs)) (sym same)
    ∙ sym (sent-entries outs after d)

-- the packets have the same numbers
pub packets-later : (outs : List Out) (hops after : ℕ → HopState) → ((d : ℕ) → (after d).sent ≡ (hops d).sent) →
    packets_on hops outs ≡ packets_on after outs
packets-later [] hops after same = refl
packets-later (o ∷ outs) hops after same =
    ap (λ n. sending n ∷ packets_on (sent_one hops o) outs) (sym (same o.to.0))
    ∙ ap (λ ss. sending (after o.to.0).sent ∷ ss) (packets-later outs (sent_one hops o) (sent_one after o) next)
  where
    sending : ℕ → Sending
    sending n = record { to = o.to; content = Message (numbered (n + 1) o.msg) }

    next : (d : ℕ) → (sent_one after o d).sent ≡ (sent_one hops o d).sent
    next d = go (nat_eq d o.to.0)
      where
        go : (b : Bool) → (cond b (sent_message (after d) o.msg) (after d)).sent ≡
            (cond b (sent_message (hops d) o.msg) (hops d)).sent
        go true = ap (λ n. n + 1) (same d)
        go false = same d

-- all can go: they are to neighbours and can be written, and there are numbers left for them

more-sent : (hops : ℕ → HopState) (o : Out) (count : ℕ) → ((d : ℕ) → (hops d).sent + (1 + count) < 2 ^ 32 - 1) →
    (d : ℕ) → (sent_one hops o d).sent + count < 2 ^ 32 - 1
more-sent hops o count left d = go (nat_eq d o.to.0) (left d)
  where
    go : (b : Bool) → (hops d).sent + (1 + count) < 2 ^ 32 - 1 →
        (cond b (sent_message (hops d) o.msg) (hops d)).sent + count < 2 ^ 32 - 1
    go true h = omega arith
    go false h = omega arith

pub all-go : (p : LocalNode) (near : ℕ → Bool) → ((n : NodeId) → is_neighbour p n ≡ true → near n.0 ≡ true) →
    (outs : List Out) (hops : ℕ → HopState) (count : ℕ) → length outs ≤ count →
    ((d : ℕ) → (hops d).sent + count < 2 ^ 32 - 1) →
    AllToNeighbours p outs → AllWritable outs → AllCanGo near hops outs
all-go p near reached [] hops count few left to can = tt
all-go p near reached (o ∷ outs) hops count few left to can =
    let small : (hops o.to.0).sent + count < 2 ^ 32 - 1 = left o.to.0 in (
      reached o.to to.0,
      omega arith,
      can.0,
      all-go p near reached outs (sent_one hops o) (count - 1) (omega arith)
          (more-sent hops o (count - 1) (λ d. let one : (hops d).sent + count < 2 ^ 32 - 1 = left d in omega arith))
          to.1 can.1,
    )

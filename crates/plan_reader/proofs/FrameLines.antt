-- Lines of frames without fault: their nodes are neighbours, and noise spells nothing.
use Rattle.std.proofs.{Common.{◌≡◌, ◌≤◌, inl, inr, ℕ, Bool, true, false, ◌&&◌, cond, not, nat_le, List, Ok, Err, refl, sym, subst}, lemmas.Bool.leb-true}
use Rattle.std.specs.{Prelude.{Option, Some, None}, Str.Parse.digits_value}
use Rattle.ason_base.specs.{Network.{Network, is_channel}, declared.ids.CallNo.CallNo, declared.ids.NodeId.NodeId, declared.commands.DisturbKind.DisturbKind, Numerals.is_numeral, declared.numerals.NumeralFault.TheVariants.{NoNumber, OutOfRange}, declared.limits.TheConstants.MOST_AHEAD}
use Rattle.flood.specs.Frames.{SpellsNothing}
use Rattle.plan_reader.specs.{declared.lines.Line.Line, declared.lines.Line.TheVariants.Noise, PlanCalls.CallList, PlanFrames.{channel_between, channel_named, disturb, disturb_of, noise_bytes, frame_noise, noise_with}, PlanScript.{IsRead, IsReadWith}, Entries.and_then, PlanSetups.node_at, PlanTexts.{or_range, positive_at, word_at}}
use Rattle.plan_reader.specs.declared.faults.PlanKind.TheVariants as kinds
use Rattle.plan_reader.proofs.{Entries.both_read, FittingCalls.{AreFitting, CanStand}}

-- the line is none of noise that spells a frame
abbrev pub WasAsked : Line → Type 0
WasAsked line = IsRead (Ok line) (Ok line)

positive_fits :
    (k most n : ℕ) (ws : List (List ℕ)) → positive_at k most ws ≡ Ok n → (1 ≤ n) × (n ≤ most)
positive_fits k most n ws h =
    let word = word_at ws k in
    let value = digits_value 10 word in
    by_form (is_numeral word) value (nat_le 1 value) (nat_le value most) refl refl h
  where
    by_form :
        (form : Bool) (value : ℕ) (low high : Bool) → nat_le 1 value ≡ low → nat_le value most ≡ high
        → or_range (cond form (cond (low && high) (Ok value) (Err OutOfRange)) (Err NoNumber)) ≡ Ok n
        → (1 ≤ n) × (n ≤ most)
    by_form true value true true e f q =
        let same : value ≡ n = cc (q) in
        subst (λ (x : ℕ). (1 ≤ x) × (x ≤ most)) same (leb-true 1 value e, leb-true value most f)
    by_form true value true false e f q = absurd (cc (q))
    by_form true value false high e f q = absurd (cc (q))
    by_form false value low high e f q = absurd (cc (q))

channel_is :
    (t : Network) (names ws : List (List ℕ)) (ends : NodeId × NodeId) → channel_named t names ws ≡ Ok ends
    → is_channel t ends.0 ends.1 ≡ true
channel_is t names ws ends h = go (node_at t names ws 1) (node_at t names ws 2) h
  where
    go : (a b : Option NodeId) → channel_between t a b ≡ Ok ends → is_channel t ends.0 ends.1 ≡ true
    go None b k = absurd (cc (k))
    go (Some u) None k = absurd (cc (k))
    go (Some u) (Some d) k = by_test (is_channel t u d) refl k
      where
        by_test :
            (b : Bool) → is_channel t u d ≡ b → cond (not b) (Err kinds.Channel) (Ok (u, d)) ≡ Ok ends
            → is_channel t ends.0 ends.1 ≡ true
        by_test true e k =
            let same : (u, d) ≡ ends = cc (k) in
            subst (λ (x : NodeId × NodeId). is_channel t x.0 x.1 ≡ true) same e
        by_test false e k = absurd (cc (k))

pub disturb_stands :
    (t : Network) (names : List (List ℕ)) (calls : CallList) (before : List CallNo) (ws : List (List ℕ)) (line : Line)
    (kind : DisturbKind) → AreFitting t calls before → disturb_of t names ws kind ≡ Ok line
    → CanStand t calls before ws line
disturb_stands t names calls before ws line kind fit h =
    let first =
    both_read (positive_at 3 MOST_AHEAD ws)
    (λ k. and_then (channel_named t names ws) (λ ends. Ok (disturb kind k ends))) line h in
    let second = both_read (channel_named t names ws) (λ ends. Ok (disturb kind first.0 ends)) line first.2 in
    let same : disturb kind first.0 second.0 ≡ line = cc (second.2) in
    let range = positive_fits 3 MOST_AHEAD first.0 ws first.1 in
    let is = channel_is t names ws second.0 second.1 in
    subst (CanStand t calls before ws) same ((is, range.0, range.1), fit)

pub noise_stands :
    (t : Network) (names : List (List ℕ)) (calls : CallList) (before : List CallNo) (ws : List (List ℕ)) (line : Line)
    → WasAsked line → AreFitting t calls before → frame_noise t names ws ≡ Ok line → CanStand t calls before ws line
noise_stands t names calls before ws line asked fit h =
    let first = both_read (channel_named t names ws) (λ ends. noise_with ends (noise_bytes (word_at ws 3))) line h in
    go first.0 (channel_is t names ws first.0 first.1) (noise_bytes (word_at ws 3)) first.2
  where
    spells_nothing : (bytes : List ℕ) (l : Line) → IsReadWith (Some bytes) l (Ok l) → SpellsNothing bytes
    spells_nothing bytes l (inl x) = x.0
    spells_nothing bytes l (inr x) = absurd (cc (x.2))

    go :
        (ends : NodeId × NodeId) → is_channel t ends.0 ends.1 ≡ true → (o : Option (List ℕ))
        → noise_with ends o ≡ Ok line → CanStand t calls before ws line
    go ends is None k = absurd (cc (k))
    go ends is (Some bytes) k =
        let same : Noise ends.0 ends.1 bytes ≡ line = cc (k) in
        let was : WasAsked (Noise ends.0 ends.1 bytes) = subst WasAsked (sym same) asked in
        subst (CanStand t calls before ws) same
        ((is, spells_nothing bytes (Noise ends.0 ends.1 bytes) was), fit)

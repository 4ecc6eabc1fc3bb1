-- What a whole round makes of what stands in the rings.
use Rattle.std.specs.{Prelude.{◌-◌, ◌||◌}, List.{AllByRecursion, range_with_len}}
use Rattle.std.proofs.{Common.{append-nil, [], ◌∷◌, ◌≡◌, ◌≤◌, ◌<◌, ◌+◌, inl, inr, ℕ, Bool, true, false, List, ◌++◌, length, refl, sym, ap, ◌∙◌, subst, append_assoc, arith}, lemmas.List.length-append}
use Rattle.ason_base.specs.{declared.limits.TheConstants.MOST_FRAMES, declared.ids.NodeId.NodeId, declared.commands.Disturb.Disturb, Network.Network}
use Rattle.flood.specs.declared.frames.Content.{Content}
use Rattle.world_rules.specs.WorldRuns.{is_world_channel}
use Rattle.world_merge.specs.Histories.{AreGenuine}
use Rattle.round_rules.specs.{Doings.{Doing, deeds_in}, Records.{Record, deeds_at}, Rings.{count_of, got_from, is_number_in, standing}, Rounds.{DropsAt, MayDrop, NumbersRise}, PossibleRecords.IsRecord}
use Rattle.round_rules.proofs.{Desks.deeds-more, Numbers.{in-append, got-append, in-first}, FleetNumbers.rises-first, RoundParts.{RoundPart, round-part}}
use Rattle.round_laws.specs.{Rings.{IsWhole, RingHasAll, RingsHaveAll, channel_of, climb, contents_of, handed_up_at, last_sent_to}, WholeRounds.{RoomDropsNone, IsWholeRound, RoundsEndInOrder, WholeRoundsHandUpAll, WholeRoundsKeepRings}}
use Rattle.round_laws.proofs.{Climbing.{AreIn, all_more, climb-append, contents-append, grown, news_are, thinned}, Numbers.{in_either, in_right, of_range, rise_join, rise_range, rise_right}, Taking.{genuine_right, turn_up}, Standing.{sender-is, receiver-is, sends-on, hears-on, standing_rises, standing_within, stands}}
use Rattle.round_rules.proofs.{Numbers.in-first, FleetNumbers.rises-first, RoundParts.{RoundPart, round-part}}

-- The round

rises_after : (t : Network) (lines : List Disturb) (before after : Record) (u d : NodeId) →
    is_world_channel t u d ≡ true →
    (r : RoundPart t lines before after d) →
    NumbersRise 0 (got_from u (before.doings d.0) ++ got_from u r.added)
rises_after t lines before after u d on r =
    subst (NumbersRise 0) (ap (got_from u) r.all ∙ got-append u (before.doings d.0) r.added)
    (rises-first 0 (got_from u (after.doings d.0)) (standing t after u d) (r.order u on))

-- What stands there after a round comes after all that was taken.
pub rounds-end_in_order : RoundsEndInOrder
rounds-end_in_order t lines before after is u d on =
    (round-part t lines before after d (is.nodes d (receiver-is t u d on))).order u on

-- what the receiver hands up is no less than it does of what it takes
hands_up : (t : Network) (lines : List Disturb) (before after : Record) → IsRecord t after →
    IsWholeRound t lines before after → (u d : NodeId) → is_world_channel t u d ≡ true →
    (r : RoundPart t lines before after d) →
    climb (handed_up_at t before d u) (contents_of (channel_of t after u d) (got_from u r.added)) ≤
    handed_up_at t after d u
hands_up t lines before after are is u d on r =
    let real : AreGenuine t (deeds_at after) d.0 (deeds_in r.added) =
    genuine_right t (deeds_at after) d.0 (deeds_at before d.0) (deeds_in r.added)
    (subst (AreGenuine t (deeds_at after) d.0) (ap deeds_in r.all ∙ deeds-more (before.doings d.0) r.added)
    (are.histories.genuine d.0)) in
    let low = turn_up t after lines u d (handed_up_at t before d u) true (before.doings d.0) r.added r.turn
    (λ k. is.delivered u d k on) real (handed_up_at t before d u) (handed_up_at t before d u)
    (same (handed_up_at t before d u)) (same (handed_up_at t before d u)) in
    subst (λ n. climb (handed_up_at t before d u) (contents_of (channel_of t after u d) (got_from u r.added)) ≤ n)
    (sym (hears-on t u d before after r.added r.all)) low
  where
    same : (n : ℕ) → n ≤ n
    same n = omega arith

-- what stood there hands up all, on the channel as it is later
stood_there : (t : Network) (before after : Record) (u d : NodeId) → RingHasAll t before u d →
    (more : List Content) → channel_of t after u d ≡ channel_of t before u d ++ more →
    last_sent_to t before u d ≤ climb (handed_up_at t before d u) (contents_of (channel_of t after u d) (standing t before u d))
stood_there t before after u d has more whole =
    let h : ℕ = handed_up_at t before d u in
    let low : climb h (contents_of (channel_of t before u d) (standing t before u d)) ≤
    climb h (contents_of (channel_of t before u d ++ more) (standing t before u d)) =
    grown (channel_of t before u d) more (standing t before u d) h h (same h) in
    subst (λ cs. last_sent_to t before u d ≤ climb h (contents_of cs (standing t before u d))) (sym whole)
    (then _ _ _ has low)
  where
    same : (n : ℕ) → n ≤ n
    same n = omega arith

    then : (a b c : ℕ) → a ≤ b → b ≤ c → a ≤ c
    then a b c f g = omega (arith, f, g)

-- In a whole round all that was sent before it is handed up.
pub whole-rounds_hand_up : WholeRoundsHandUpAll
whole-rounds_hand_up t lines before after are is have u d on =
    let from = round-part t lines before after u (is.round.nodes u (sender-is t u d on)) in
    let to = round-part t lines before after d (is.round.nodes d (receiver-is t u d on)) in
    let sent = sends-on t u d before after from.added from.all in
    let h : ℕ = handed_up_at t before d u in
    let cs : List Content = channel_of t after u d in
    let stood = stood_there t before after u d (have u d on).has sent.more sent.whole in
    let taken : climb h (contents_of cs (standing t before u d)) ≤ climb h (contents_of cs (got_from u to.added)) =
    thinned cs (got_from u to.added) (standing t before u d) 0 0 h h (standing_rises t before u d)
    (rise_right 0 (got_from u (before.doings d.0)) (got_from u to.added)
    (rises_after t lines before after u d on to)) (λ k stood. to.taken u k on stood) (same h) in
    three _ _ _ _ stood taken (hands_up t lines before after are is u d on to)
  where
    same : (n : ℕ) → n ≤ n
    same n = omega arith

    three : (a b c d : ℕ) → a ≤ b → b ≤ c → c ≤ d → a ≤ d
    three a b c d f g h = omega (arith, f, g, h)

-- Rings after the round

record Parts (t : Network) (before after : Record) (u d : NodeId) (added : List Doing) : Type 0 where
  more : List Content
  whole : channel_of t after u d ≡ channel_of t before u d ++ more
  got : got_from u (after.doings d.0) ≡ got_from u (before.doings d.0) ++ got_from u added
  dropped : after.dropped u.0 d.0 ≡ before.dropped u.0 d.0
  taken : AreIn (got_from u added) (standing t before u d)
  old : IsWhole t before u d

count_after : (t : Network) (before after : Record) (u d : NodeId) (added : List Doing) →
    (p : Parts t before after u d added) → count_of t after u d ≡ count_of t before u d + length p.more
count_after t before after u d added p =
    ap (λ (cs : List Content). length cs) p.whole ∙ length-append (channel_of t before u d) p.more

-- all that stood there or was sent since is taken, or stands there
all_there : (t : Network) (before after : Record) (u d : NodeId) (added : List Doing) →
    (p : Parts t before after u d added) →
    AreIn (got_from u added ++ standing t after u d)
    (standing t before u d ++ range_with_len (count_of t before u d + 1) (length p.more))
all_there t before after u d added p k is =
    elim (in_either (standing t before u d) new k is) [
      | inl old ↦ in-first (got_from u added) (standing t after u d) k (p.taken k old)
      | inr late ↦ go (is_number_in (got_from u added) k) refl
          (of_range (count_of t before u d + 1) (length p.more) k late)
    ]
  where
    new : List ℕ
    new = range_with_len (count_of t before u d + 1) (length p.more)

    not_got : (b : Bool) → is_number_in (got_from u (before.doings d.0)) k ≡ b → count_of t before u d < k → b ≡ false
    not_got true e high = let low = p.old.got k e in absurd (omega (arith, low, high))
    not_got false e high = refl

    not_dropped : (b : Bool) → is_number_in (before.dropped u.0 d.0) k ≡ b → count_of t before u d < k → b ≡ false
    not_dropped true e high = let low = p.old.dropped k e in absurd (omega (arith, low, high))
    not_dropped false e high = refl

    go : (b : Bool) → is_number_in (got_from u added) k ≡ b →
        (count_of t before u d + 1 ≤ k) × (k < count_of t before u d + 1 + length p.more) →
        is_number_in (got_from u added ++ standing t after u d) k ≡ true
    go true e r = in-first (got_from u added) (standing t after u d) k e
    go false e r =
        let high : count_of t before u d < k = omega (arith, r.0) in
        let none : is_number_in (got_from u (after.doings d.0)) k ≡ false =
        ap (λ ks. is_number_in ks k) p.got ∙ in-append (got_from u (before.doings d.0)) (got_from u added) k
        ∙ neither (is_number_in (got_from u (before.doings d.0)) k) (is_number_in (got_from u added) k)
        (not_got (is_number_in (got_from u (before.doings d.0)) k) refl high) e in
        let kept : is_number_in (after.dropped u.0 d.0) k ≡ false =
        ap (λ ks. is_number_in ks k) p.dropped ∙ not_dropped (is_number_in (before.dropped u.0 d.0) k) refl high in
        let all = count_after t before after u d added p in
        in_right (got_from u added) (standing t after u d) k
        (stands t after u d k (omega (arith, high)) (omega (arith, r.1, all)) none kept)
      where
        neither : (a b : Bool) → a ≡ false → b ≡ false → (a || b) ≡ false
        neither a b e f = rw (e, f) refl

rings_after : (t : Network) (before after : Record) (u d : NodeId) (added : List Doing) →
    (p : Parts t before after u d added) → last_sent_to t after u d ≤ climb (last_sent_to t before u d) p.more →
    NumbersRise 0 (got_from u (after.doings d.0) ++ standing t after u d) →
    climb (handed_up_at t before d u) (contents_of (channel_of t after u d) (got_from u added)) ≤
    handed_up_at t after d u → RingHasAll t after u d
rings_after t before after u d added p enough up hands =
    four _ _ _ _ _ _ enough (all_more (last_sent_to t before u d) (climb h (contents_of cs old)) p.more stood)
    (equal _ _ (sym (climb-append h (contents_of cs old) p.more) ∙ ap (climb h) (sym joined)))
    (less _ _ _ thin
    (ap (climb h) (contents-append cs (got_from u added) left)
    ∙ climb-append h (contents_of cs (got_from u added)) (contents_of cs left)))
    (all_more (climb h (contents_of cs (got_from u added))) (handed_up_at t after d u) (contents_of cs left) hands)
  where
    h : ℕ
    h = handed_up_at t before d u

    cs : List Content
    cs = channel_of t after u d

    old : List ℕ
    old = standing t before u d

    left : List ℕ
    left = standing t after u d

    new : List ℕ
    new = range_with_len (count_of t before u d + 1) (length p.more)

    stood : last_sent_to t before u d ≤ climb h (contents_of cs old)
    stood = stood_there t before after u d p.old.has p.more p.whole

    joined : contents_of cs (old ++ new) ≡ contents_of cs old ++ p.more
    joined =
        contents-append cs old new
        ∙ ap (λ xs. contents_of cs old ++ xs) (ap (λ ys. contents_of ys new) p.whole
        ∙ news_are (channel_of t before u d) p.more)

    old_up : NumbersRise 0 (old ++ new)
    old_up =
        rise_join 0 (count_of t before u d) old new (omega arith) (standing_rises t before u d)
        (standing_within t before u d) (rise_range (count_of t before u d) (length p.more))

    all_up : NumbersRise 0 (got_from u added ++ left)
    all_up =
        rise_right 0 (got_from u (before.doings d.0)) (got_from u added ++ left)
        (subst (NumbersRise 0) (ap (λ ks. ks ++ left) p.got
        ∙ append_assoc (got_from u (before.doings d.0)) (got_from u added) left) up)

    thin : climb h (contents_of cs (old ++ new)) ≤ climb h (contents_of cs (got_from u added ++ left))
    thin =
        thinned cs (got_from u added ++ left) (old ++ new) 0 0 h h old_up all_up
        (all_there t before after u d added p) (omega arith)

    equal : (a b : ℕ) → a ≡ b → a ≤ b
    equal a b e = omega (arith, e)

    less : (a b c : ℕ) → a ≤ b → b ≡ c → a ≤ c
    less a b c f e = omega (arith, f, e)

    four : (a b c d e f : ℕ) → a ≤ b → b ≤ c → c ≤ d → d ≤ e → e ≤ f → a ≤ f
    four a b c d e f p q r s v = omega (arith, p, q, r, s, v)

-- And what is sent in it stands in the ring, or is handed up.
pub ring-kept : (t : Network) (lines : List Disturb) (before after : Record) → IsRecord t after →
    IsWholeRound t lines before after → RingsHaveAll t before → (u d : NodeId) → is_world_channel t u d ≡ true →
    IsWhole t after u d
ring-kept t lines before after are is have u d on =
    let from = round-part t lines before after u (is.round.nodes u (sender-is t u d on)) in
    let to = round-part t lines before after d (is.round.nodes d (receiver-is t u d on)) in
    let sent = sends-on t u d before after from.added from.all in
    let got : got_from u (after.doings d.0) ≡ got_from u (before.doings d.0) ++ got_from u to.added =
    ap (got_from u) to.all ∙ got-append u (before.doings d.0) to.added in
    let p : Parts t before after u d to.added = record {
      more = sent.more;
      whole = sent.whole;
      got = got;
      dropped = is.kept u.0 d.0;
      taken = λ k stood. to.taken u k on stood;
      old = have u d on;
    } in
    let counts = count_after t before after u d to.added p in
    record {
      has = rings_after t before after u d to.added p sent.enough (to.order u on)
          (hands_up t lines before after are is u d on to);
      got = λ k in_it. elim (in_either (got_from u (before.doings d.0)) (got_from u to.added) k
          (sym (ap (λ ks. is_number_in ks k) got) ∙ in_it)) [
            | inl old ↦ let low = (have u d on).got k old in omega (arith, low, counts)
            | inr late ↦ (to.sent u k late).1
          ];
      dropped = λ k in_it. let low = (have u d on).dropped k (sym (ap (λ ks. is_number_in ks k) (is.kept u.0 d.0)) ∙ in_it) in
          omega (arith, low, counts);
    }

pub whole-rounds_keep : WholeRoundsKeepRings
whole-rounds_keep t lines before after are is have u d on = ring-kept t lines before after are is have u d on

-- Drops

none_dropped : (t : Network) (old new : Record) (u d : NodeId) (ks : List ℕ) →
    length (standing t old u d) + count_of t new u d ≤ MOST_FRAMES + count_of t old u d →
    NumbersRise (count_of t old u d) ks → AllByRecursion (MayDrop t old new u d) ks → ks ≡ []
none_dropped t old new u d [] room up may = refl
none_dropped t old new u d (k ∷ ks) room up may =
    absurd (too_many (length (standing t old u d)) (count_of t old u d) (count_of t new u d) k room up.0 may.0.within
    may.0.full)
  where
    too_many : (s a b k : ℕ) → s + b ≤ MOST_FRAMES + a → a < k → k ≤ b → MOST_FRAMES ≤ s + (k - a - 1) → ⊥
    too_many s a b k room above within full = omega (arith, room, above, within, full)

-- Where there is room none is dropped.
pub room-drops_none : RoomDropsNone
room-drops_none t lines old new u d is room =
    let drops : DropsAt t old new u d = is.drops u d in
    drops.all ∙ ap (λ ks. old.dropped u.0 d.0 ++ ks) (none_dropped t old new u d drops.more room drops.later drops.may)
    ∙ append-nil (old.dropped u.0 d.0)

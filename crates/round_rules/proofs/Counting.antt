-- A ring before and after turns of its two nodes: what was handed to it, and what stands there.
use Rattle.std.proofs.{Common.{◌≡◌, ◌≤◌, ◌+◌, ◌-◌, ℕ, true, List, ◌++◌, drop, length, sym, ap, ◌∙◌, subst, arith, append_assoc}, lemmas.List.{append_cancel_left, length-append, length-map, map-append}, ByRecursion.All-append}
use Rattle.std.specs.{Prelude.{◌||◌, min}, List.{AllByRecursion, range_with_len}}
use Rattle.ason_base.specs.{declared.limits.TheConstants.MOST_FRAMES, declared.ids.NodeId.NodeId, Network.Network}
use mathlib.Core.List.{IsPrefix}
use Rattle.rtrb.specs.Ring.{known_items, received}
use Rattle.hop_reliable.proofs.Members.{each-more}
use Rattle.station_rings.specs.{declared.parcel.Parcel.Parcel, LinkStates.{LinkState, gone_of}}
use Rattle.round_rules.specs.{Doings.Doing, Records.Record, Rings.{count_of, got_from, handed, is_number_in, standing, without_numbers}, Rounds.{DropsAt, MayDrop, NumbersRise}, Moves.{HasMoved, IsDrained}, States.{IsTakenFrom, parcel_numbers}}
use Rattle.round_rules.proofs.{Standing.standing-is-left, Numbers.{got-append, in-append}, Links.{sends-count, taken-more}, Handing.handed-after, FleetNumbers.{all-range, drop-range, rises-range}}

-- the numbers of the frames that are dropped while a link moves
abbrev pub drops_over : LinkState → LinkState → List ℕ
drops_over old new = drop (MOST_FRAMES - old.standing) (range_with_len (old.sent + 1) (new.sent - old.sent))

-- What is so of a ring, with the counts of its ends, by one record.
pub record RingFacts (t : Network) (r : Record) (u d : NodeId) (out into : LinkState) : Type 0 where
  pub count : out.sent ≡ count_of t r u d
  pub peer : into.peer ≡ u
  pub taken : IsTakenFrom (r.doings d.0) into
  pub handed_over : parcel_numbers (gone_of out) ≡ handed t r u d
  pub room : length (gone_of out) ≤ out.standing + length (got_from u (r.doings d.0))
  pub most : out.standing ≤ MOST_FRAMES
  pub past : AllByRecursion (λ (k : ℕ). k ≤ out.sent) (r.dropped u.0 d.0)

-- the numbers of what was taken, and of what came early, and of what is known
all_numbers : (t : Network) (r : Record) (u d : NodeId) (out into : LinkState) → RingFacts t r u d out into →
    (rest : List Parcel) → received into.into ++ rest ≡ gone_of out →
    handed t r u d ≡ got_from u (r.doings d.0) ++ parcel_numbers (into.early ++ rest)
all_numbers t r u d out into f rest whole =
    sym f.handed_over ∙ ap parcel_numbers (sym whole ∙ ap (λ ps. ps ++ rest) f.taken.came
    ∙ append_assoc f.taken.taken into.early rest)
    ∙ map-append (λ (p : Parcel). p.number) f.taken.taken (into.early ++ rest)
    ∙ ap (λ ks. ks ++ parcel_numbers (into.early ++ rest)) (f.taken.numbers
    ∙ ap (λ (v : NodeId). got_from v (r.doings d.0)) f.peer)

-- What stands in the ring where all is known

module _ (t : Network) (r : Record) (u d : NodeId) (out into : LinkState) (f : RingFacts t r u d out into)
    (whole : received into.into ++ known_items into.into ≡ gone_of out) where
  -- just the frames that are early and known stand there
  pub stands-there : standing t r u d ≡ parcel_numbers (into.early ++ known_items into.into)
  stands-there =
      standing-is-left t r u d (parcel_numbers (into.early ++ known_items into.into))
      (all_numbers t r u d out into f (known_items into.into) whole)

  -- as many as the sender counts
  pub stands-count : out.standing ≡ length into.early + length (known_items into.into) →
      length (standing t r u d) ≡ out.standing
  stands-count exact =
      ap length stands-there ∙ length-map (into.early ++ known_items into.into) (λ (p : Parcel). p.number)
      ∙ length-append into.early (known_items into.into) ∙ sym exact

-- What was taken

module _ (t : Network) (r : Record) (u d : NodeId) (out into : LinkState) (f : RingFacts t r u d out into)
    (begun : IsPrefix (received into.into) (gone_of out)) where
  -- it is the first that was handed over
  pub taken-first : IsPrefix (got_from u (r.doings d.0)) (handed t r u d)
  taken-first = (parcel_numbers (into.early ++ begun.0), sym (all_numbers t r u d out into f begun.0 begun.1))

-- After turns

module _ (t : Network) (r after : Record) (u d : NodeId) (out into out2 into2 : LinkState)
    (f : RingFacts t r u d out into) (sends : HasMoved out out2) (count : out2.sent ≡ count_of t after u d)
    (taken : IsTakenFrom (after.doings d.0) into2)
    (dropped : after.dropped u.0 d.0 ≡ r.dropped u.0 d.0 ++ drops_over out out2) where
  abbrev grown : ℕ
  grown = out2.sent - out.sent

  abbrev room : ℕ
  room = MOST_FRAMES - out.standing

  longer : out.sent ≤ out2.sent
  longer = sends.sent

  together : out.sent + grown ≡ out2.sent
  together = omega (arith, longer)

  sends_long : length sends.sends ≡ min grown room
  sends_long = sends-count out out2 sends

  got_now : (takes : HasMoved into into2) →
      got_from u (after.doings d.0) ≡ got_from u (r.doings d.0) ++ parcel_numbers takes.takes
  got_now takes =
      ap (λ (v : NodeId). got_from v (after.doings d.0)) (sym (takes.peer ∙ f.peer))
      ∙ taken-more (r.doings d.0) (after.doings d.0) into into2 f.taken taken takes
      ∙ ap (λ (v : NodeId). got_from v (r.doings d.0) ++ parcel_numbers takes.takes) f.peer

  handed_now : handed t after u d ≡ handed t r u d ++ range_with_len (out.sent + 1) (min grown room)
  handed_now =
      ap (λ ks. without_numbers ks (range_with_len 1 (count_of t after u d))) dropped
      ∙ ap (λ k. without_numbers (r.dropped u.0 d.0 ++ drops_over out out2) (range_with_len 1 k))
      (sym count ∙ sym together)
      ∙ handed-after (r.dropped u.0 d.0) out.sent grown room f.past
      ∙ ap (λ k. without_numbers (r.dropped u.0 d.0) (range_with_len 1 k)
      ++ range_with_len (out.sent + 1) (min grown room))
      f.count

  drops_past : AllByRecursion (λ (k : ℕ). k ≤ out2.sent) (drops_over out out2)
  drops_past =
      subst (AllByRecursion (λ (k : ℕ). k ≤ out2.sent)) (sym (drop-range room (out.sent + 1) grown))
      (all-range (λ k. k ≤ out2.sent) ((out.sent + 1) + room) (grown - room) (λ k low high.
      omega (arith, low, high, together)))

  -- The facts of a ring after turns at both of its ends.
  pub facts-after : HasMoved into into2 → RingFacts t after u d out2 into2
  facts-after takes = record {
    count = count;
    peer = takes.peer ∙ f.peer;
    taken = taken;
    handed_over =
        ap parcel_numbers sends.gone ∙ map-append (λ (p : Parcel). p.number) (gone_of out) sends.sends
        ∙ ap (λ ks. ks ++ parcel_numbers sends.sends) f.handed_over
        ∙ ap (λ ks. handed t r u d ++ ks) sends.numbers ∙ sym handed_now;
    room =
        let gone : length (gone_of out2) ≡ length (gone_of out) + length sends.sends =
        ap length sends.gone ∙ length-append (gone_of out) sends.sends in
        let got : length (got_from u (after.doings d.0)) ≡
        length (got_from u (r.doings d.0)) + length (parcel_numbers takes.takes) =
        ap length (got_now takes) ∙ length-append (got_from u (r.doings d.0)) (parcel_numbers takes.takes) in
        let before = f.room in
        let stands = sends.standing in
        omega (arith, gone, got, before, stands);
    most =
        let before = f.most in
        let stands = sends.standing in
        let long = sends_long in
        omega (arith, before, stands, long);
    past =
        subst (AllByRecursion (λ (k : ℕ). k ≤ out2.sent)) (sym dropped)
        (All-append (λ (k : ℕ). k ≤ out2.sent) (r.dropped u.0 d.0) (drops_over out out2)
        (each-more (λ (k : ℕ). k ≤ out.sent) (λ (k : ℕ). k ≤ out2.sent) (λ k le. omega (arith, le, longer))
        (r.dropped u.0 d.0) f.past) drops_past);
  }

  -- of the new frames the last are dropped, where the ring was full
  pub drops-at : length (standing t r u d) ≡ out.standing → DropsAt t r after u d
  drops-at exact = record {
    more = drops_over out out2;
    all = dropped;
    later =
        subst (NumbersRise (count_of t r u d)) (sym (drop-range room (out.sent + 1) grown))
        (rises-range (count_of t r u d) ((out.sent + 1) + room) (grown - room) (omega (arith, counted)));
    may =
        subst (AllByRecursion (MayDrop t r after u d)) (sym (drop-range room (out.sent + 1) grown))
        (all-range (MayDrop t r after u d) ((out.sent + 1) + room) (grown - room) (λ k low high. record {
          within = omega (arith, low, high, together, counted_after);
          full = omega (arith, low, high, counted, exact);
        }));
  }
    where
      counted : out.sent ≡ count_of t r u d
      counted = f.count

      counted_after : out2.sent ≡ count_of t after u d
      counted_after = count

  -- all that stood there is taken
  pub takes-all : (added : List Doing) → after.doings d.0 ≡ r.doings d.0 ++ added → IsDrained into into2 →
      received into.into ++ known_items into.into ≡ gone_of out → (k : ℕ) → is_number_in (standing t r u d) k ≡ true →
      is_number_in (got_from u added) k ≡ true
  takes-all added all drained whole k h =
      ap (λ ks. is_number_in ks k) (now ∙ ap parcel_numbers (sym drained.1.1)
      ∙ map-append (λ (p : Parcel). p.number) (into.early ++ known_items into.into) drained.1.0)
      ∙ in-append (parcel_numbers (into.early ++ known_items into.into)) (parcel_numbers drained.1.0) k
      ∙ ap (λ b. b || is_number_in (parcel_numbers drained.1.0) k)
      (ap (λ ks. is_number_in ks k) (sym (stands-there t r u d out into f whole))
      ∙ h)
    where
      now : got_from u added ≡ parcel_numbers drained.0.takes
      now =
          append_cancel_left (got_from u (r.doings d.0)) (got_from u added) (parcel_numbers drained.0.takes)
          (sym (got-append u (r.doings d.0) added) ∙ ap (got_from u) (sym all) ∙ got_now drained.0)

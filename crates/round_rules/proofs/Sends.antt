-- Frames that go over one link.
use Rattle.std.proofs.{Common.{◌≡◌, ◌≤◌, ◌+◌, ◌-◌, ◌⊎◌, inl, inr, ℕ, zero, suc, Bool, true, false, cond, nat_lt, List, [], ◌∷◌, ◌++◌, length, refl, sym, ap, ◌∙◌, arith, append-nil, append_assoc}, lemmas.List.length-append, lemmas.List.FromFn.length-range_with_len}
use Rattle.std.specs.{Prelude.min, List.range_with_len}
use Rattle.ason_base.specs.declared.limits.TheConstants.{MOST_FRAMES}
use Rattle.rtrb.specs.Ring.{sent}
use Rattle.control_channels.specs.declared.frames.Frame.{Frame}
use Rattle.station_rings.specs.{declared.parcel.Parcel.Parcel, Links.{LinkView, link_after_frame, link_after_frames, is_link_view_to, with_parcel}}
use Rattle.round_rules.specs.States.{parcel_numbers}

-- what was handed to the ring, and what was dropped
pub record RingSends (v w : LinkView) : Type 0 where
  pub peer : w.peer ≡ v.peer
  pub sent : v.sent ≤ w.sent
  pub sends : List Parcel
  pub gone : w.gone ≡ v.gone ++ sends
  pub numbers : parcel_numbers sends ≡ range_with_len (v.sent + 1) (min (w.sent - v.sent) (MOST_FRAMES - v.standing))
  pub standing : w.standing ≡ v.standing + length sends

none_left : (a b k : ℕ) → b ≡ a → min (b - a) k ≡ 0
none_left a b k e = grind (arith, e)

-- nothing was sent
pub sends-same : (v w : LinkView) → w.peer ≡ v.peer → w.sent ≡ v.sent → w.gone ≡ v.gone → w.standing ≡ v.standing →
    RingSends v w
sends-same v w peer sent gone standing = record {
  peer = peer;
  sent = omega (arith, sent);
  sends = [];
  gone = gone ∙ sym (append-nil v.gone);
  numbers = ap (range_with_len (v.sent + 1)) (sym (none_left v.sent w.sent (MOST_FRAMES - v.standing) sent));
  standing = omega (arith, standing);
}

length_numbers : (ps : List Parcel) → length (parcel_numbers ps) ≡ length ps
length_numbers [] = refl
length_numbers (p ∷ ps) = ap suc (length_numbers ps)

range_split : (s i j : ℕ) → range_with_len s i ++ range_with_len (s + i) j ≡ range_with_len s (i + j)
range_split s zero j = ap (λ k. range_with_len k j) (omega arith) ∙ ap (range_with_len s) (omega arith)
range_split s (suc i) j =
    let on : s + suc i ≡ (s + 1) + i = omega arith in
    let more : suc i + j ≡ suc (i + j) = omega arith in
    ap (λ k. s ∷ (range_with_len (s + 1) i ++ range_with_len k j)) on
    ∙ ap (λ xs. s ∷ xs) (range_split (s + 1) i j) ∙ ap (range_with_len s) (sym more)

-- of the later frames none goes to the ring, or all of the earlier ones did
joined : (a b c k l x y : ℕ) → a ≤ b → b ≤ c → x ≡ min (b - a) (MOST_FRAMES - k) → l ≡ k + x →
    y ≡ min (c - b) (MOST_FRAMES - l) →
    (y ≡ 0) ⊎ (a + x ≡ b)
joined a b c k l x y ab bc e f g = grind (arith, ab, bc, e, f, g)

total : (a b c k l x y : ℕ) → a ≤ b → b ≤ c → x ≡ min (b - a) (MOST_FRAMES - k) → l ≡ k + x →
    y ≡ min (c - b) (MOST_FRAMES - l) →
    x + y ≡ min (c - a) (MOST_FRAMES - k)
total a b c k l x y ab bc e f g = grind (arith, ab, bc, e, f, g)

numbers_more : (xs ys : List Parcel) → parcel_numbers (xs ++ ys) ≡ parcel_numbers xs ++ parcel_numbers ys
numbers_more [] ys = refl
numbers_more (x ∷ xs) ys = ap (λ ks. x.number ∷ ks) (numbers_more xs ys)

-- more was sent after it
pub sends-then : (u v w : LinkView) → RingSends u v → RingSends v w → RingSends u w
sends-then u v w a b = record {
  peer = b.peer ∙ a.peer;
  sent = omega (arith, a.sent, b.sent);
  sends = a.sends ++ b.sends;
  gone = b.gone ∙ ap (λ ps. ps ++ b.sends) a.gone ∙ append_assoc u.gone a.sends b.sends;
  numbers =
      numbers_more a.sends b.sends ∙ (λ i. a.numbers i ++ b.numbers i) ∙ ap (λ ks. range_with_len (u.sent + 1) x ++ ks)
      (next (joined u.sent v.sent w.sent u.standing v.standing x y a.sent b.sent refl long refl))
      ∙ range_split (u.sent + 1) x y
      ∙ ap (range_with_len (u.sent + 1))
      (total u.sent v.sent w.sent u.standing v.standing x y a.sent b.sent refl long refl);
  standing = omega (arith, b.standing, a.standing, length-append a.sends b.sends);
}
  where
    x : ℕ
    x = min (v.sent - u.sent) (MOST_FRAMES - u.standing)

    y : ℕ
    y = min (w.sent - v.sent) (MOST_FRAMES - v.standing)

    few : length a.sends ≡ x
    few = sym (length_numbers a.sends) ∙ ap length a.numbers ∙ length-range_with_len (u.sent + 1) x

    long : v.standing ≡ u.standing + x
    long = a.standing ∙ ap (λ k. u.standing + k) few

    next : (y ≡ 0) ⊎ (u.sent + x ≡ v.sent) → range_with_len (v.sent + 1) y ≡ range_with_len ((u.sent + 1) + x) y
    next h = elim h [
      | inl e ↦ ap (range_with_len (v.sent + 1)) e ∙ sym (ap (range_with_len ((u.sent + 1) + x)) e)
      | inr e ↦ (let on : v.sent + 1 ≡ (u.sent + 1) + x = omega (arith, e) in ap (λ k. range_with_len k y) on)
    ]

-- one frame
pub sends-parcel : (stamp : ℕ) (frame : List ℕ) (v : LinkView) → RingSends v (with_parcel stamp frame v)
sends-parcel stamp frame v = go (nat_lt v.standing MOST_FRAMES) refl
  where
    p : Parcel
    p = record { number = v.sent + 1; stamp = stamp; frame = frame }

    one : (a k : ℕ) → nat_lt k MOST_FRAMES ≡ true → min ((a + 1) - a) (MOST_FRAMES - k) ≡ 1
    one a k h = grind (arith, h)

    none : (a k : ℕ) → nat_lt k MOST_FRAMES ≡ false → min ((a + 1) - a) (MOST_FRAMES - k) ≡ 0
    none a k h = grind (arith, h)

    go : (b : Bool) → nat_lt v.standing MOST_FRAMES ≡ b → RingSends v (record v {
      sent = v.sent + 1;
      standing = cond b (v.standing + 1) v.standing;
      gone = cond b (v.gone ++ p ∷ []) v.gone;
    })
    go true e = record {
      peer = refl;
      sent = omega arith;
      sends = p ∷ [];
      gone = refl;
      numbers = ap (range_with_len (v.sent + 1)) (sym (one v.sent v.standing e));
      standing = refl;
    }
    go false e = record {
      peer = refl;
      sent = omega arith;
      sends = [];
      gone = sym (append-nil v.gone);
      numbers = ap (range_with_len (v.sent + 1)) (sym (none v.sent v.standing e));
      standing = omega arith;
    }

sends_frame : (stamp : ℕ) (f : Frame) (v : LinkView) → RingSends v (link_after_frame stamp f v)
sends_frame stamp f v = go (is_link_view_to f.to v)
  where
    go : (b : Bool) → RingSends v (cond b (with_parcel stamp f.bytes v) v)
    go true = sends-parcel stamp f.bytes v
    go false = sends-same v v refl refl refl refl

-- frames, one after the other
pub sends-frames : (stamp : ℕ) (fs : List Frame) (v : LinkView) → RingSends v (link_after_frames stamp fs v)
sends-frames stamp [] v = sends-same v v refl refl refl refl
sends-frames stamp (f ∷ fs) v =
    sends-then v (link_after_frame stamp f v) (link_after_frames stamp fs (link_after_frame stamp f v))
    (sends_frame stamp f v)
    (sends-frames stamp fs (link_after_frame stamp f v))

-- Which deed sent a frame.
use Rattle.std.proofs.{Common.{◌≡◌, ◌<◌, ◌≤◌, ◌+◌, ℕ, Bool, true, false, cond, nat_le, List, [], ◌∷◌, ◌++◌, length, refl, ap, ◌∙◌, arith}, lemmas.List.length-append}
use Rattle.ason_base.specs.{declared.ids.NodeId.NodeId, Network.Network}
use Rattle.ason_base.proofs.Numbers.{le-tested}
use Rattle.flood.specs.declared.frames.Content.{Content}
use Rattle.world_rules.specs.Worlds.{World, world_start}
use Rattle.world_merge.specs.{Deeds.{Deed, alone_from, done, stamp_of}, Stamps.{SentNow, SentStays, sent_stamp_from}}
use Rattle.world_merge.proofs.Growing.{Grows, deeds-grow}

stays : (t : Network) (u : NodeId) (d k : ℕ) (w : World) (ds : List Deed) (e : Deed) →
    length (w.channels u.0 d) < k → k ≤ length ((alone_from t u w ds).channels u.0 d) →
    sent_stamp_from t u d k w (ds ++ e ∷ []) ≡ sent_stamp_from t u d k w ds
stays t u d k w [] e above within = absurd (omega (arith, above, within))
stays t u d k w (x ∷ ds) e above within =
    go (nat_le k (length (next.channels u.0 d))) refl (λ h. stays t u d k (done t u w x) ds e h within)
  where
    next : World
    next = done t u w x

    go : (b : Bool) → nat_le k (length (next.channels u.0 d)) ≡ b → (length (next.channels u.0 d) < k →
        sent_stamp_from t u d k next (ds ++ e ∷ []) ≡ sent_stamp_from t u d k next ds) →
        cond b (stamp_of x) (sent_stamp_from t u d k next (ds ++ e ∷ [])) ≡
        cond b (stamp_of x) (sent_stamp_from t u d k next ds)
    go true h rest = refl
    go false h rest = rest (le-tested k (length (next.channels u.0 d)) false h)

-- a channel never gets shorter
pub longer : (old new : List Content) → Grows old new → length old ≤ length new
longer old new is =
    let whole : length new ≡ length old + length is.more = ap length is.whole ∙ length-append old is.more in omega arith

not_within : (k n : ℕ) → n < k → nat_le k n ≡ false
not_within k n h = grind (arith, h)

is_within : (k n : ℕ) → k ≤ n → nat_le k n ≡ true
is_within k n h = grind (arith, h)

now : (t : Network) (u : NodeId) (d k : ℕ) (w : World) (ds : List Deed) (e : Deed) →
    length ((alone_from t u w ds).channels u.0 d) < k →
    k ≤ length ((alone_from t u w (ds ++ e ∷ [])).channels u.0 d) →
    sent_stamp_from t u d k w (ds ++ e ∷ []) ≡ stamp_of e
now t u d k w [] e above within =
    ap (λ b. cond b (stamp_of e) 0) (is_within k (length ((done t u w e).channels u.0 d)) within)
now t u d k w (x ∷ ds) e above within =
    ap (λ b. cond b (stamp_of x) (sent_stamp_from t u d k next (ds ++ e ∷ [])))
    (not_within k (length (next.channels u.0 d)) (omega (arith, less, above)))
    ∙ now t u d k next ds e above within
  where
    next : World
    next = done t u w x

    less : length (next.channels u.0 d) ≤ length ((alone_from t u next ds).channels u.0 d)
    less = longer (next.channels u.0 d) ((alone_from t u next ds).channels u.0 d) (deeds-grow t u next ds u.0 d)

pub sent-stays : SentStays
sent-stays t u d k ds e some within = stays t u d k (world_start t) ds e some within

pub sent-now : SentNow
sent-now t u d k ds e above within = now t u d k (world_start t) ds e above within

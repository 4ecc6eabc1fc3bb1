-- What sending and taking make of one link.
use Rattle.std.proofs.Common.{◌≡◌, ℕ, true, false, List, [], ◌∷◌, ◌++◌, refl, sym, ap, ◌∙◌, subst, append-nil, append_assoc}
use mathlib.Core.List.{IsPrefix}
use Rattle.rtrb.specs.Ring.{received, known_items, sent, SameConsumer, SameProducer}
use Rattle.control_channels.specs.declared.frames.Frame.{Frame}
use Rattle.station_rings.specs.{declared.parcel.Parcel.Parcel, LinkStates.{IsFetched, IsLinkStill, IsStillUnlessUsed, IsTaken, LinkState, SameEnds, view_of}}
use Rattle.round_rules.specs.Moves.{HasMoved, IsSentOver, TakesNone}
use Rattle.round_rules.proofs.Sends.{RingSends, sends-frames, sends-same, sends-then}

pub prefix-refl : {X : Type 0} (xs : List X) → IsPrefix xs xs
prefix-refl xs = ([], append-nil xs)

pub prefix-trans : {X : Type 0} (xs ys zs : List X) → IsPrefix xs ys → IsPrefix ys zs → IsPrefix xs zs
prefix-trans xs ys zs a b =
    (a.0 ++ b.0, sym (append_assoc xs a.0 b.0) ∙ ap (λ ws. ws ++ b.0) a.1 ∙ b.1)

same_consumer : (l : LinkState) → SameConsumer l.into l.into
same_consumer l = ((refl, refl, refl, refl), refl)

same_producer : (l : LinkState) → SameProducer l.out l.out
same_producer l = ((refl, refl, refl, refl), refl)

consumer_then : (l m k : LinkState) → SameConsumer l.into m.into → SameConsumer m.into k.into →
    SameConsumer l.into k.into
consumer_then l m k a b = ((b.0.0 ∙ a.0.0, b.0.1 ∙ a.0.1, b.0.2 ∙ a.0.2, b.0.3 ∙ a.0.3), b.1 ∙ a.1)

-- what was sent by a link that moved
pub moved-sends : (l m : LinkState) → HasMoved l m → RingSends (view_of l) (view_of m)
moved-sends l m is = record {
  peer = is.peer;
  sent = is.sent;
  sends = is.sends;
  gone = is.gone;
  numbers = is.numbers;
  standing = is.standing;
}

-- a link that wasn't used is still
still-self : (l : LinkState) → l.used ≡ false → IsLinkStill l l
still-self l unused = record {
  unused = unused;
  peer = refl;
  sent = refl;
  standing = refl;
  out = refl;
  backlog = refl;
  ends = same_consumer l;
  came = refl;
  known = refl;
  early = refl;
}

pub still-then : (l m k : LinkState) → IsLinkStill l m → IsLinkStill m k → IsLinkStill l k
still-then l m k a b = record {
  unused = a.unused;
  peer = b.peer ∙ a.peer;
  sent = b.sent ∙ a.sent;
  standing = b.standing ∙ a.standing;
  out = b.out ∙ a.out;
  backlog = b.backlog ∙ a.backlog;
  ends = consumer_then l m k a.ends b.ends;
  came = b.came ∙ a.came;
  known = b.known ∙ a.known;
  early = b.early ∙ a.early;
}

-- of a link that was used nothing is to be shown
still_used : (l m : LinkState) → m.used ≡ true → IsStillUnlessUsed l m
still_used l m used unused = absurd (cc (used, unused))

-- a link moved where this was sent and taken, and nothing came
abbrev pub moved-still : (l m : LinkState) → RingSends (view_of l) (view_of m) → SameEnds l m → m.into ≡ l.into →
    (takes : List Parcel) → l.early ≡ takes ++ m.early → IsStillUnlessUsed l m → HasMoved l m
moved-still l m s ends into takes taken still = record {
  peer = s.peer;
  ends = ends;
  sent = s.sent;
  sends = s.sends;
  gone = s.gone;
  numbers = s.numbers;
  standing = s.standing;
  came = [];
  into = ap received into ∙ sym (append-nil (received l.into));
  takes = takes;
  taken = append-nil l.early ∙ taken;
  known =
      subst (λ c. IsPrefix (received l.into ++ known_items l.into) (received c ++ known_items c)) (sym into)
      (prefix-refl (received l.into ++ known_items l.into));
  still = still;
}

-- nothing happened
pub moved-none : (l : LinkState) → TakesNone l l
moved-none l = (
  moved-still l l (sends-same (view_of l) (view_of l) refl refl refl refl)
      (record { out = same_producer l; into = same_consumer l }) refl [] refl (still-self l),
  refl,
)

pub same-ends : (l m k : LinkState) → SameEnds l m → SameEnds m k → SameEnds l k
same-ends l m k a b = record {
  out = (
    (b.out.0.0 ∙ a.out.0.0, b.out.0.1 ∙ a.out.0.1, b.out.0.2 ∙ a.out.0.2, b.out.0.3 ∙ a.out.0.3),
    b.out.1 ∙ a.out.1,
  );
  into = consumer_then l m k a.into b.into;
}

-- one thing after another
abbrev pub moved-then : (l m k : LinkState) → HasMoved l m → HasMoved m k → HasMoved l k
moved-then l m k a b =
    let s = sends-then (view_of l) (view_of m) (view_of k) (moved-sends l m a) (moved-sends m k b) in
    record {
      peer = b.peer ∙ a.peer;
      ends = same-ends l m k a.ends b.ends;
      sent = s.sent;
      sends = s.sends;
      gone = s.gone;
      numbers = s.numbers;
      standing = s.standing;
      came = a.came ++ b.came;
      into =
          b.into ∙ ap (λ ps. ps ++ b.came) a.into ∙ append_assoc (received l.into) a.came b.came;
      takes = a.takes ++ b.takes;
      taken =
          sym (append_assoc l.early a.came b.came) ∙ ap (λ ps. ps ++ b.came) a.taken
          ∙ append_assoc a.takes m.early b.came ∙ ap (λ ps. a.takes ++ ps) b.taken
          ∙ sym (append_assoc a.takes b.takes k.early);
      known = prefix-trans _ _ _ a.known b.known;
      still = λ unused. let last = b.still unused in still-then l m k (a.still last.unused) last;
    }

-- frames were sent over it
pub moved-sent : (stamp : ℕ) (fs : List Frame) (l m : LinkState) → IsSentOver stamp fs l m → TakesNone l m
moved-sent stamp fs l m is = (
  moved-still l m (subst (RingSends (view_of l)) (sym is.view) (sends-frames stamp fs (view_of l))) is.ends is.into []
      (sym is.early)
      (λ unused.
      let same = sym (is.same unused) in
      subst (IsLinkStill l) same (still-self l (ap (λ (k : LinkState). k.used) same ∙ unused))),
  refl,
)

-- a frame came out of the ring
pub moved-fetched : (l m : LinkState) → IsFetched l m → TakesNone l m
moved-fetched l m is =
    let s = sends-same (view_of l) (view_of m) is.peer is.sent (λ i. sent (is.out i) ++ is.backlog i) is.standing in (
      record {
        peer = is.peer;
        ends = record { out = subst (SameProducer l.out) (sym is.out) (same_producer l); into = is.ends };
        sent = s.sent;
        sends = s.sends;
        gone = s.gone;
        numbers = s.numbers;
        standing = s.standing;
        came = is.more;
        into = is.came;
        takes = [];
        taken = sym is.early;
        known = is.known;
        still = is.still;
      },
      refl,
    )

-- a frame was taken
pub moved-taken : (q : Parcel) (l m : LinkState) → IsTaken q l m → (moved : HasMoved l m) × (moved.takes ≡ q ∷ [])
moved-taken q l m is = (
  moved-still l m
      (sends-same (view_of l) (view_of m) is.peer is.sent (λ i. sent (is.out i) ++ is.backlog i) is.standing)
      (record {
        out = subst (SameProducer l.out) (sym is.out) (same_producer l);
        into = subst (SameConsumer l.into) (sym is.into) (same_consumer l);
      }) is.into (q ∷ []) is.first (still_used l m is.used),
  refl,
)

-- Within a round in order: the nodes below a number made their turns, the others not yet. It is a record too.
use Rattle.std.proofs.{Common.{◌≡◌, ◌≤◌, ◌<◌, ◌⊎◌, inl, inr, ℕ, Bool, true, false, cond, nat_eq, nat_lt, List, [], ◌∷◌, ◌++◌, filter, length, map, refl, sym, ap, ◌∙◌, subst, arith}, lemmas.Bool.cases_lt}
use Rattle.std.specs.{Prelude.{◌&&◌, ◌||◌, Some, if◌then◌else◌}, List.AllByRecursion}
use Rattle.ason_base.specs.{declared.commands.Disturb.Disturb, declared.ids.NodeId.NodeId, Network.{Network, is_node_id}}
use Rattle.ason_base.proofs.{Members.all-right, Bridges.same_node}
use Rattle.flood.specs.declared.frames.Content.{Content}
use Rattle.world_rules.specs.{WorldRuns.{is_world_channel, may_act}, Worlds.{World, numbered_at, world_start}}
use Rattle.world_merge.specs.{Deeds.{AreDoable, Deed, Handled, Heard, IsDoable, Posted, Ticked, Took, alone, done, sent_by, stamp_of, upto}, Histories.{AreGenuine, IsGenuine, at}, Logs.{RisesAbove, is_posted, line_of, posts_of}}
use Rattle.world_merge.proofs.{Splitting.alone-more, Sendings.numbered_more}
use Rattle.round_rules.specs.{Doings.{Did, Doing, Freed, Got, Left, Lost, deeds_in}, Records.{Record, deeds_at, posts_in}, Rings.{count_of, got_from, is_number_in}, Rounds.IsRound, PossibleRecords.IsRecord}
use Rattle.round_rules.proofs.{Desks.deeds-more, RoundParts.round-part, SentOn.sent-more}
use Rattle.round_laws.specs.RoundsInOrder.{IsFromBefore, IsRoundInOrder}
use Rattle.round_laws.proofs.{FromBefore.{IsGotBefore, IsTook, turn-took}, Sending.deeds_bring, Since.front, Sorting.NonePosted, Sweeping.{doings_added, added_is, all-added, none-added, none-posted}, Taking.genuine_right}

-- The record

-- the nodes below x did what they do in the round
abbrev pub mixed : Record → Record → ℕ → Record
mixed old new x = record {
  doings = λ m. if nat_lt m x then new.doings m else old.doings m;
  dropped = old.dropped;
}

-- those that made their turns
pub mixed-new : (old new : Record) (x m : ℕ) → m < x → (mixed old new x).doings m ≡ new.doings m
mixed-new old new x m less = let e : nat_lt m x ≡ true = grind arith in ap (λ b. cond b (new.doings m) (old.doings m)) e

-- and those that didn't
pub mixed-old : (old new : Record) (x m : ℕ) → x ≤ m → (mixed old new x).doings m ≡ old.doings m
mixed-old old new x m most = let e : nat_lt m x ≡ false = grind arith in ap (λ b. cond b (new.doings m) (old.doings m)) e

-- what holds of both holds of either
pub either-way : (P : List Doing → Type 0) (b : Bool) (xs ys : List Doing) → P xs → P ys → P (cond b xs ys)
either-way P true xs ys one two = one
either-way P false xs ys one two = two

-- Posts

posts-stay : (ds es : List Deed) → NonePosted es → filter is_posted (ds ++ es) ≡ filter is_posted ds
posts-stay [] [] none = refl
posts-stay [] (e ∷ es) none =
    ap (λ b. cond b (e ∷ filter is_posted es) (filter is_posted es)) none.0 ∙ posts-stay [] es none.1
posts-stay (d ∷ ds) es none = ap (λ xs. cond (is_posted d) (d ∷ xs) xs) (posts-stay ds es none)

-- What was sent up to a stamp

data Upto (s : ℕ) (ds es : List Deed) : Type 0 where
  Within : upto s (ds ++ es) ≡ upto s ds → Upto s ds es
  Beyond : upto s ds ≡ ds → (ys : List Deed) → upto s (ds ++ es) ≡ ds ++ ys → Upto s ds es

upto-parts : (s : ℕ) (ds es : List Deed) → Upto s ds es
upto-parts s [] es = Beyond refl (upto s es) refl
upto-parts s (d ∷ ds) es = go (nat_lt s (stamp_of d)) refl (upto-parts s ds es)
  where
    go : (b : Bool) → nat_lt s (stamp_of d) ≡ b → Upto s ds es → Upto s (d ∷ ds) es
    go true e more =
        Within (ap (λ b. cond b [] (d ∷ upto s (ds ++ es))) e ∙ sym (ap (λ b. cond b [] (d ∷ upto s ds)) e))
    go false e (Within is) =
        Within (ap (λ b. cond b [] (d ∷ upto s (ds ++ es))) e ∙ ap (λ xs. d ∷ xs) is
        ∙ sym (ap (λ b. cond b [] (d ∷ upto s ds)) e))
    go false e (Beyond all ys is) =
        Beyond (ap (λ b. cond b [] (d ∷ upto s ds)) e ∙ ap (λ xs. d ∷ xs) all) ys
        (ap (λ b. cond b [] (d ∷ upto s (ds ++ es))) e ∙ ap (λ xs. d ∷ xs) is)

-- later deeds send behind what was sent
sent-grows : (t : Network) (u : NodeId) (ds ys : List Deed) (n : ℕ) →
    (more : List Content) × (sent_by t u (ds ++ ys) n ≡ sent_by t u ds n ++ more)
sent-grows t u ds ys n =
    let b = deeds_bring t u (alone t u ds) ys u.0 n in
    (b.more, ap (λ w. w.channels u.0 n) (alone-more t u (world_start t) ds ys) ∙ b.whole)

module _ (t : Network) (u : NodeId) (ds es : List Deed) (n k s : ℕ) (x : Content) where
  -- a frame that was sent has its number once more is done
  sent-still : numbered_at (sent_by t u (upto s ds) n) k ≡ Some x →
      numbered_at (sent_by t u (upto s (ds ++ es)) n) k ≡ Some x
  sent-still is = go (upto-parts s ds es)
    where
      go : Upto s ds es → numbered_at (sent_by t u (upto s (ds ++ es)) n) k ≡ Some x
      go (Within e) = ap (λ zs. numbered_at (sent_by t u zs n) k) e ∙ is
      go (Beyond all ys e) =
          let g = sent-grows t u ds ys n in
          ap (λ zs. numbered_at (sent_by t u zs n) k) e ∙ ap (λ cs. numbered_at cs k) g.1
          ∙ numbered_more (sent_by t u ds n) g.0 k x (sym (ap (λ zs. numbered_at (sent_by t u zs n) k) all) ∙ is)

  -- and where it was among the first ones it had it before
  sent-then : k ≤ length (sent_by t u ds n) → numbered_at (sent_by t u (upto s (ds ++ es)) n) k ≡ Some x →
      numbered_at (sent_by t u (upto s ds) n) k ≡ Some x
  sent-then low is = go (upto-parts s ds es)
    where
      go : Upto s ds es → numbered_at (sent_by t u (upto s ds) n) k ≡ Some x
      go (Within e) = sym (ap (λ zs. numbered_at (sent_by t u zs n) k) e) ∙ is
      go (Beyond all ys e) =
          let g = sent-grows t u ds ys n in
          ap (λ zs. numbered_at (sent_by t u zs n) k) all
          ∙ sym (ap (λ zs. numbered_at (sent_by t u zs n) k) e ∙ ap (λ cs. numbered_at cs k) g.1
          ∙ front (sent_by t u ds n) g.0 k low) ∙ is

-- a frame that a node takes came by a channel
abbrev IsOnChannel : Network → ℕ → NodeId → ℕ → Type 0
IsOnChannel t n u k = is_world_channel t u (at n) ≡ true

on-channel : (t : Network) (n : ℕ) (w : World) (d : Deed) → IsDoable t (at n) w d → IsTook (IsOnChannel t n) d
on-channel t n w (Took s u k c) may = second (may_act t w (at n)) (is_world_channel t u (at n)) may
  where
    second : (a b : Bool) → (a && b) ≡ true → b ≡ true
    second true b e = e
    second false b e = absurd (cc e)
on-channel t n w (Ticked s) may = tt
on-channel t n w (Handled s) may = tt
on-channel t n w (Heard s u bytes) may = tt
on-channel t n w (Posted s c) may = tt

on-channels : (t : Network) (n : ℕ) (w : World) (ds : List Deed) → AreDoable t (at n) w ds →
    AllByRecursion (IsTook (IsOnChannel t n)) ds
on-channels t n w [] may = tt
on-channels t n w (d ∷ ds) may = (on-channel t n w d may.0, on-channels t n (done t (at n) w d) ds may.1)

-- what was taken from a later node had been sent before the round
got-early : (t : Network) (old : Record) (n u : NodeId) (k : ℕ) → is_world_channel t u n ≡ true → n.0 < u.0 →
    (ds : List Doing) → AllByRecursion (IsFromBefore t old n) ds → is_number_in (got_from u ds) k ≡ true →
    k ≤ count_of t old u n
got-early t old n u k on less [] all h = absurd (cc (h))
got-early t old n u k on less (Did d ∷ ds) all h = got-early t old n u k on less ds all.1 h
got-early t old n u k on less (Freed ∷ ds) all h = got-early t old n u k on less ds all.1 h
got-early t old n u k on less (Lost v j ∷ ds) all h = got-early t old n u k on less ds all.1 h
got-early t old n u k on less (Left i ∷ ds) all h = got-early t old n u k on less ds all.1 h
got-early t old n u k on less (Got v j says ∷ ds) all h =
    go (nat_eq v.0 u.0) refl h (got-early t old n u k on less ds all.1)
  where
    first : nat_eq v.0 u.0 ≡ true → (b : Bool) → nat_eq j k ≡ b → (b || is_number_in (got_from u ds) k) ≡ true →
        (is_number_in (got_from u ds) k ≡ true → k ≤ count_of t old u n) → k ≤ count_of t old u n
    first e true f h rest =
        let same : v ≡ u = same_node v u e in
        let number : j ≡ k = grind (arith, f) in
        subst (λ i. i ≤ count_of t old u n) number
        (subst (λ (w : NodeId). is_world_channel t w n ≡ true → n.0 < w.0 → j ≤ count_of t old w n) same all.0 on less)
    first e false f h rest = rest h

    go : (b : Bool) → nat_eq v.0 u.0 ≡ b → is_number_in (cond b (j ∷ got_from u ds) (got_from u ds)) k ≡ true →
        (is_number_in (got_from u ds) k ≡ true → k ≤ count_of t old u n) → k ≤ count_of t old u n
    go true e h rest = first e (nat_eq j k) refl h rest
    go false e h rest = rest h

-- The record's parts

module _ (t : Network) (lines : List Disturb) (old new : Record) (is_old : IsRecord t old) (is_new : IsRecord t new)
    (round : IsRound t lines old new) (order : IsRoundInOrder t old new) (x : ℕ) where
  abbrev r : Record
  r = mixed old new x

  -- what a node did is what it had done and what it did in the round
  deeds-are : (m : ℕ) → deeds_in (new.doings m) ≡ deeds_in (old.doings m) ++ deeds_in (doings_added old new m)
  deeds-are m = ap deeds_in (all-added t lines old new round m) ∙ deeds-more (old.doings m) (doings_added old new m)

  deeds-new : (m : ℕ) → m < x → deeds_at r m ≡ deeds_in (old.doings m) ++ deeds_in (doings_added old new m)
  deeds-new m less = ap deeds_in (mixed-new old new x m less) ∙ deeds-are m

  deeds-old : (m : ℕ) → x ≤ m → deeds_at r m ≡ deeds_in (old.doings m)
  deeds-old m most = ap deeds_in (mixed-old old new x m most)

  -- what was genuine is so still
  from-old : (n : ℕ) (d : Deed) → IsGenuine t (deeds_at old) n d → IsGenuine t (deeds_at r) n d
  from-old n (Took s u k c) is = (is.0, is.1, go (cases_lt u.0 x))
    where
      go : (u.0 < x) ⊎ (x ≤ u.0) → numbered_at (sent_by t u (upto is.0 (deeds_at r u.0)) n) k ≡ Some c
      go (inl less) =
          ap (λ ds. numbered_at (sent_by t u (upto is.0 ds) n) k) (deeds-new u.0 less)
          ∙ sent-still t u (deeds_in (old.doings u.0)) (deeds_in (doings_added old new u.0)) n k is.0 c is.2
      go (inr most) = ap (λ ds. numbered_at (sent_by t u (upto is.0 ds) n) k) (deeds-old u.0 most) ∙ is.2
  from-old n (Ticked s) is = tt
  from-old n (Handled s) is = tt
  from-old n (Heard s u bytes) is = tt
  from-old n (Posted s c) is = tt

  all-from_old : (n : ℕ) (ds : List Deed) → AreGenuine t (deeds_at old) n ds → AreGenuine t (deeds_at r) n ds
  all-from_old n [] all = tt
  all-from_old n (d ∷ ds) all = (from-old n d all.0, all-from_old n ds all.1)

  -- what a later node sent before the round
  abbrev Early : ℕ → NodeId → ℕ → Type 0
  Early n u k = is_world_channel t u (at n) ≡ true → n < u.0 → k ≤ count_of t old u (at n)

  -- and what is genuine once the round is over, where that wasn't sent in it by a later node
  from-new : (n : ℕ) → n < x → (d : Deed) → IsGenuine t (deeds_at new) n d → IsTook (IsOnChannel t n) d →
      IsTook (Early n) d → IsGenuine t (deeds_at r) n d
  from-new n made (Took s u k c) is on early = (is.0, is.1, go (cases_lt u.0 x))
    where
      later : numbered_at (sent_by t u (upto is.0 (deeds_in (old.doings u.0) ++ deeds_in (doings_added old new u.0))) n) k ≡ Some c
      later = sym (ap (λ ds. numbered_at (sent_by t u (upto is.0 ds) n) k) (deeds-are u.0)) ∙ is.2

      go : (u.0 < x) ⊎ (x ≤ u.0) → numbered_at (sent_by t u (upto is.0 (deeds_at r u.0)) n) k ≡ Some c
      go (inl less) = ap (λ ds. numbered_at (sent_by t u (upto is.0 ds) n) k) (deeds-new u.0 less) ∙ later
      go (inr most) =
          ap (λ ds. numbered_at (sent_by t u (upto is.0 ds) n) k) (deeds-old u.0 most)
          ∙ sent-then t u (deeds_in (old.doings u.0)) (deeds_in (doings_added old new u.0)) n k is.0 c
          (early on (omega (arith, made, most))) later
  from-new n made (Ticked s) is on early = tt
  from-new n made (Handled s) is on early = tt
  from-new n made (Heard s u bytes) is on early = tt
  from-new n made (Posted s c) is on early = tt

  all-from_new : (n : ℕ) → n < x → (ds : List Deed) → AreGenuine t (deeds_at new) n ds →
      AllByRecursion (IsTook (IsOnChannel t n)) ds → AllByRecursion (IsTook (Early n)) ds →
      AreGenuine t (deeds_at r) n ds
  all-from_new n made [] all on early = tt
  all-from_new n made (d ∷ ds) all on early =
      (from-new n made d all.0 on.0 early.0, all-from_new n made ds all.1 on.1 early.1)

  are-got : (n : ℕ) (ds : List Doing) → AllByRecursion (IsFromBefore t old (at n)) ds →
      AllByRecursion (IsGotBefore (Early n)) ds
  are-got n [] all = tt
  are-got n (Got u k says ∷ ds) all = (all.0, are-got n ds all.1)
  are-got n (Did d ∷ ds) all = (tt, are-got n ds all.1)
  are-got n (Freed ∷ ds) all = (tt, are-got n ds all.1)
  are-got n (Lost u k ∷ ds) all = (tt, are-got n ds all.1)
  are-got n (Left i ∷ ds) all = (tt, are-got n ds all.1)

  -- of what a node delivers in the round, it is so
  added-early : (n : ℕ) (b : Bool) → is_node_id t.nodes (at n) ≡ b →
      AllByRecursion (IsTook (Early n)) (deeds_in (doings_added old new n))
  added-early n true e =
      let a = round-part t lines old new (at n) (round.nodes (at n) e) in
      subst (λ ds. AllByRecursion (IsTook (Early n)) (deeds_in ds)) (sym (added_is old new n a.added a.all))
      (turn-took (Early n) t lines (at n) true (old.doings n) a.added a.turn
      (subst (AllByRecursion (IsGotBefore (Early n))) a.all (are-got n (new.doings n) (order.later (at n)))))
  added-early n false e =
      subst (AllByRecursion (IsTook (Early n))) (sym (none-added t lines old new round n e)) tt

  genuine-join : (n : ℕ) (ds es : List Deed) → AreGenuine t (deeds_at r) n ds → AreGenuine t (deeds_at r) n es →
      AreGenuine t (deeds_at r) n (ds ++ es)
  genuine-join n [] es one two = two
  genuine-join n (d ∷ ds) es one two = (one.0, genuine-join n ds es one.1 two)

  genuine : (n : ℕ) → AreGenuine t (deeds_at r) n (deeds_at r n)
  genuine n = go (cases_lt n x)
    where
      before : AreGenuine t (deeds_at r) n (deeds_in (old.doings n))
      before = all-from_old n (deeds_in (old.doings n)) (is_old.histories.genuine n)

      go : (n < x) ⊎ (x ≤ n) → AreGenuine t (deeds_at r) n (deeds_at r n)
      go (inl less) =
          subst (AreGenuine t (deeds_at r) n) (sym (deeds-new n less))
          (genuine-join n (deeds_in (old.doings n)) (deeds_in (doings_added old new n)) before
          (all-from_new n less (deeds_in (doings_added old new n))
          (genuine_right t (deeds_at new) n (deeds_in (old.doings n)) (deeds_in (doings_added old new n))
          (subst (AreGenuine t (deeds_at new) n) (deeds-are n) (is_new.histories.genuine n)))
          (all-right (IsTook (IsOnChannel t n)) (deeds_in (old.doings n)) (deeds_in (doings_added old new n))
          (subst (AllByRecursion (IsTook (IsOnChannel t n))) (deeds-are n)
          (on-channels t n (world_start t) (deeds_at new n) (is_new.histories.doable n))))
          (added-early n (is_node_id t.nodes (at n)) refl)))
      go (inr most) = subst (AreGenuine t (deeds_at r) n) (sym (deeds-old n most)) before

  same-posts : (n : ℕ) → posts_of (at n) (deeds_at r n) ≡ posts_in old
  same-posts n =
      either-way (λ ds. posts_of (at n) (deeds_in ds) ≡ posts_in old) (nat_lt n x) (new.doings n) (old.doings n)
      (ap (posts_of (at n)) (deeds-are n)
      ∙ ap (map (line_of (at n))) (posts-stay (deeds_in (old.doings n)) (deeds_in (doings_added old new n))
      (none-posted t lines old new round n)) ∙ is_old.posts n)
      (is_old.posts n)

  -- Only what was sent is taken or dropped

  no-fewer : (u d : NodeId) → count_of t old u d ≤ count_of t r u d
  no-fewer u d = go (cases_lt u.0 x)
    where
      go : (u.0 < x) ⊎ (x ≤ u.0) → count_of t old u d ≤ count_of t r u d
      go (inl less) =
          let more = sent-more t u (deeds_in (old.doings u.0)) (deeds_in (doings_added old new u.0)) d.0 in
          let is = ap (λ ds. length (sent_by t u ds d.0)) (deeds-new u.0 less) in
          omega (arith, more, is)
      go (inr most) =
          let is = ap (λ ds. length (sent_by t u ds d.0)) (deeds-old u.0 most) in omega (arith, is)

  got-sent : (u d : NodeId) → is_world_channel t u d ≡ true → (k : ℕ) →
      is_number_in (got_from u (r.doings d.0)) k ≡ true → k ≤ count_of t r u d
  got-sent u d on k h = go (cases_lt d.0 x)
    where
      early : x ≤ d.0 → k ≤ count_of t r u d
      early most =
          let low =
          (is_old.only u d on).got k (sym (ap (λ ds. is_number_in (got_from u ds) k) (mixed-old old new x d.0 most)) ∙ h) in
          let more = no-fewer u d in
          omega (arith, low, more)

      now : d.0 < x → is_number_in (got_from u (new.doings d.0)) k ≡ true
      now less = sym (ap (λ ds. is_number_in (got_from u ds) k) (mixed-new old new x d.0 less)) ∙ h

      late : d.0 < x → (u.0 < x) ⊎ (x ≤ u.0) → k ≤ count_of t r u d
      late less (inl made) =
          subst (λ ds. k ≤ length (sent_by t u (deeds_in ds) d.0)) (sym (mixed-new old new x u.0 made))
          ((is_new.only u d on).got k (now less))
      late less (inr most) =
          let low = got-early t old d u k on (omega (arith, less, most)) (new.doings d.0) (order.later d) (now less) in
          let more = no-fewer u d in
          omega (arith, low, more)

      go : (d.0 < x) ⊎ (x ≤ d.0) → k ≤ count_of t r u d
      go (inl less) = late less (cases_lt u.0 x)
      go (inr most) = early most

  -- It is a record.
  pub mixed-record : IsRecord t (mixed old new x)
  mixed-record = record {
    histories = record {
      doable = λ n. either-way (λ ds. AreDoable t (at n) (world_start t) (deeds_in ds)) (nat_lt n x) (new.doings n)
          (old.doings n) (is_new.histories.doable n) (is_old.histories.doable n);
      genuine = genuine;
    };
    rises = λ n. either-way (λ ds. RisesAbove 0 (deeds_in ds)) (nat_lt n x) (new.doings n) (old.doings n)
        (is_new.rises n) (is_old.rises n);
    posts = λ n. same-posts n ∙ sym (same-posts 0);
    only = λ u d on. record {
      got = got-sent u d on;
      dropped = λ k h. let low = (is_old.only u d on).dropped k h in let more = no-fewer u d in omega (arith, low, more);
    };
  }

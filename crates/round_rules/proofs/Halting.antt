-- Where a turn halts, and what it did before.
use Rattle.std.proofs.Common.{◌≡◌, ◌≤◌, ◌+◌, ◌⊎◌, inl, inr, ℕ, zero, suc, nat_lt, Bool, true, false, cond, List, [], ◌∷◌, ◌++◌, refl, sym, ap, ◌∙◌, subst, arith, append-nil, append_assoc}
use Rattle.std.specs.Prelude.{◌^◌, ◌&&◌, max, Option, Some, None}
use Rattle.ason_base.specs.{declared.limits.TheConstants.MOST_EVENTS, declared.ids.NodeId.NodeId, declared.commands.Disturb.Disturb, declared.commands.DisturbKind.DisturbKind, declared.commands.DisturbKind.TheVariants.{Lose, Repeat, Hold}}
use Rattle.world_merge.specs.Deeds.{Took}
use Rattle.round_rules.specs.{Doings.{DeskItem, Did, Doing, DueFrame, Got, Left, RingFrame, Waiting}, Functions.{Popped, all_freed, all_handled, all_taken, clock_of, with_delivered, with_freed, got, with_handled, with_taken, taken_as}, Halts.MayLack, Limits.{Progress, delivery_part, due_parts, going, halted_by, item_parts, log_line_count, next_stamp, pop_part, pop_parts, stamp_for, unless_halted}, Lines.says, Takings.IsDelivered}
use Rattle.round_rules.proofs.Ending.{is-going, pop-does, still-popped}

-- There is no room for an input with this stamp.
abbrev pub AreDoingsFull : ℕ → List Doing → Type 0
AreDoingsFull s ds = (MOST_EVENTS ≤ log_line_count ds) ⊎ (2 ^ 64 ≤ s)

pub full : (s k : ℕ) → (nat_lt k MOST_EVENTS && nat_lt s (2 ^ 64)) ≡ false → (MOST_EVENTS ≤ k) ⊎ (2 ^ 64 ≤ s)
full s k e = grind (arith, e)

-- Held frames that are due

pub record HaltsInDues (ds : List Doing) (due : List Popped) (p : Progress) : Type 0 where
  pub first : List Popped
  pub at : Popped
  pub rest : List Popped
  pub all : due ≡ first ++ at ∷ rest
  pub is : p.doings ≡ all_freed ds first ++ Left (DueFrame at.from at.number) ∷ []
  pub full : AreDoingsFull (stamp_for at (all_freed ds first)) (all_freed ds first)

still_due : (w : Waiting) (ds : List Doing) (due : List Popped) → due_parts (halted_by w ds) due ≡ halted_by w ds
still_due w ds [] = refl
still_due w ds (x ∷ due) = still_due w ds due

pub halts-in-dues : (ds : List Doing) (due : List Popped) → (due_parts (going ds) due).halted ≡ true →
    HaltsInDues ds due (due_parts (going ds) due)
halts-in-dues ds [] e = absurd (cc (e))
halts-in-dues ds (x ∷ due) e =
    go (nat_lt (log_line_count ds) MOST_EVENTS && nat_lt (stamp_for x ds) (2 ^ 64)) refl
    (halts-in-dues (with_freed ds x) due) e
  where
    w : Waiting
    w = DueFrame x.from x.number

    go : (b : Bool) → (nat_lt (log_line_count ds) MOST_EVENTS && nat_lt (stamp_for x ds) (2 ^ 64)) ≡ b →
        ((due_parts (going (with_freed ds x)) due).halted ≡ true →
        HaltsInDues (with_freed ds x) due (due_parts (going (with_freed ds x)) due)) →
        (due_parts (cond b (going (with_freed ds x)) (halted_by w ds)) due).halted ≡ true →
        HaltsInDues ds (x ∷ due) (due_parts (cond b (going (with_freed ds x)) (halted_by w ds)) due)
    go true h later e =
        let r = later e in
        record {
          first = x ∷ r.first;
          at = r.at;
          rest = r.rest;
          all = ap (λ ps. x ∷ ps) r.all;
          is = r.is;
          full = r.full;
        }
    go false h later e = record {
      first = [];
      at = x;
      rest = due;
      all = refl;
      is = ap (λ (p : Progress). p.doings) (still_due w ds due);
      full = full (stamp_for x ds) (log_line_count ds) h;
    }

-- Items

pub record HaltsInItems (ds : List Doing) (k : ℕ) (p : Progress) : Type 0 where
  pub done : ℕ
  pub left : ℕ
  pub all : k ≡ done + suc left
  pub is : p.doings ≡ all_handled done ds ++ Left DeskItem ∷ []
  pub full : AreDoingsFull (next_stamp (all_handled done ds)) (all_handled done ds)

still_items : (w : Waiting) (ds : List Doing) (k : ℕ) → item_parts k (halted_by w ds) ≡ halted_by w ds
still_items w ds zero = refl
still_items w ds (suc k) = still_items w ds k

pub halts-in-items : (ds : List Doing) (k : ℕ) → (item_parts k (going ds)).halted ≡ true →
    HaltsInItems ds k (item_parts k (going ds))
halts-in-items ds zero e = absurd (cc (e))
halts-in-items ds (suc k) e =
    go (nat_lt (log_line_count ds) MOST_EVENTS && nat_lt (next_stamp ds) (2 ^ 64)) refl
    (halts-in-items (with_handled ds) k) e
  where
    go : (b : Bool) → (nat_lt (log_line_count ds) MOST_EVENTS && nat_lt (next_stamp ds) (2 ^ 64)) ≡ b →
        ((item_parts k (going (with_handled ds))).halted ≡ true →
        HaltsInItems (with_handled ds) k (item_parts k (going (with_handled ds)))) →
        (item_parts k (cond b (going (with_handled ds)) (halted_by DeskItem ds))).halted ≡ true →
        HaltsInItems ds (suc k) (item_parts k (cond b (going (with_handled ds)) (halted_by DeskItem ds)))
    go true h later e =
        let r = later e in
        let whole = r.all in
        record { done = suc r.done; left = r.left; all = omega (arith, whole); is = r.is; full = r.full }
    go false h later e = record {
      done = 0;
      left = k;
      all = omega arith;
      is = ap (λ (p : Progress). p.doings) (still_items DeskItem ds k);
      full = full (next_stamp ds) (log_line_count ds) h;
    }

-- Frames of rings

-- one frame: nothing of it was taken, or the first of two deliveries was made
pub record HaltsAt (o : Option DisturbKind) (lines : List Disturb) (n : NodeId) (ds : List Doing) (x : Popped)
    (p : Progress) : Type 0 where
  pub last : List Doing
  pub lacks : says lines x.from n x.number ≡ o → MayLack lines n last
  pub is : p.doings ≡ (ds ++ last) ++ Left (RingFrame x.from x.number) ∷ []
  pub rest : List Doing
  pub whole : taken_as o ds x ≡ (ds ++ last) ++ rest
  pub delivers : IsDelivered o
  pub full : AreDoingsFull (stamp_for x (ds ++ last)) (ds ++ last)

-- nothing of it was taken
none_of : (o : Option DisturbKind) (lines : List Disturb) (n : NodeId) (ds : List Doing) (x : Popped)
    (rest : List Doing) → IsDelivered o → taken_as o ds x ≡ ds ++ rest →
    (nat_lt (log_line_count ds) MOST_EVENTS && nat_lt (stamp_for x ds) (2 ^ 64)) ≡ false →
    HaltsAt o lines n ds x (halted_by (RingFrame x.from x.number) ds)
none_of o lines n ds x rest delivers whole h = record {
  last = [];
  lacks = λ e. inl refl;
  is = ap (λ ks. ks ++ Left (RingFrame x.from x.number) ∷ []) (sym (append-nil ds));
  rest = rest;
  whole = whole ∙ ap (λ ks. ks ++ rest) (sym (append-nil ds));
  delivers = delivers;
  full =
      subst (λ ks. AreDoingsFull (stamp_for x ks) ks) (sym (append-nil ds))
      (full (stamp_for x ds) (log_line_count ds) h);
}

halts_at : (o : Option DisturbKind) (lines : List Disturb) (n : NodeId) (ds : List Doing) (x : Popped) →
    (pop_part o ds x).halted ≡ true → HaltsAt o lines n ds x (pop_part o ds x)
halts_at None lines n ds x e = go (nat_lt (log_line_count ds) MOST_EVENTS && nat_lt (stamp_for x ds) (2 ^ 64)) refl e
  where
    go : (b : Bool) → (nat_lt (log_line_count ds) MOST_EVENTS && nat_lt (stamp_for x ds) (2 ^ 64)) ≡ b →
        (cond b (going (with_delivered (got ds x None) x)) (halted_by (RingFrame x.from x.number) ds)).halted ≡ true →
        HaltsAt None lines n ds x
        (cond b (going (with_delivered (got ds x None) x)) (halted_by (RingFrame x.from x.number) ds))
    go true h e = absurd (cc (e))
    go false h e =
        none_of None lines n ds x (Got x.from x.number None ∷ Did (Took (max (clock_of (got ds x None)) x.stamp + 1)
        x.from x.number x.content) ∷ []) tt
        (append_assoc ds (Got x.from x.number None ∷ []) (Did (Took (max (clock_of (got ds x None)) x.stamp + 1)
        x.from x.number x.content) ∷ [])) h
halts_at (Some Repeat) lines n ds x e = go (nat_lt (log_line_count ds) MOST_EVENTS && nat_lt (stamp_for x ds) (2 ^ 64)) refl e
  where
    once : List Doing
    once = with_delivered (got ds x (Some Repeat)) x

    w : Waiting
    w = RingFrame x.from x.number

    one : Doing
    one = Did (Took (max (clock_of (got ds x (Some Repeat))) x.stamp + 1) x.from x.number x.content)

    two : Doing
    two = Did (Took (max (clock_of once) x.stamp + 1) x.from x.number x.content)

    last : List Doing
    last = Got x.from x.number (Some Repeat) ∷ one ∷ []

    once_is : once ≡ ds ++ last
    once_is = append_assoc ds (Got x.from x.number (Some Repeat) ∷ []) (one ∷ [])

    again : (b : Bool) → (nat_lt (log_line_count once) MOST_EVENTS && nat_lt (stamp_for x once) (2 ^ 64)) ≡ b →
        (cond b (going (with_delivered once x)) (halted_by w once)).halted ≡ true →
        HaltsAt (Some Repeat) lines n ds x (cond b (going (with_delivered once x)) (halted_by w once))
    again true h e = absurd (cc (e))
    again false h e = record {
      last = last;
      lacks = λ says. inr (record {
        from = x.from;
        number = x.number;
        stamp = max (clock_of (got ds x (Some Repeat))) x.stamp + 1;
        content = x.content;
        repeats = says;
        all = refl;
      });
      is = ap (λ ks. ks ++ Left w ∷ []) once_is;
      rest = two ∷ [];
      whole = ap (λ ks. ks ++ two ∷ []) once_is;
      delivers = tt;
      full =
          subst (λ ks. AreDoingsFull (stamp_for x ks) ks) once_is (full (stamp_for x once) (log_line_count once) h);
    }

    go : (b : Bool) → (nat_lt (log_line_count ds) MOST_EVENTS && nat_lt (stamp_for x ds) (2 ^ 64)) ≡ b →
        (unless_halted (delivery_part x) (cond b (going once) (halted_by w ds))).halted ≡ true →
        HaltsAt (Some Repeat) lines n ds x (unless_halted (delivery_part x) (cond b (going once) (halted_by w ds)))
    go true h e = again (nat_lt (log_line_count once) MOST_EVENTS && nat_lt (stamp_for x once) (2 ^ 64)) refl e
    go false h e =
        none_of (Some Repeat) lines n ds x (last ++ two ∷ []) tt
        (ap (λ ks. ks ++ two ∷ []) once_is ∙ append_assoc ds last (two ∷ [])) h
halts_at (Some Lose) lines n ds x e = absurd (cc (e))
halts_at (Some Hold) lines n ds x e = absurd (cc (e))

pub record HaltsInPops (lines : List Disturb) (n : NodeId) (ds : List Doing) (pops : List Popped)
    (p : Progress) : Type 0 where
  pub first : List Popped
  pub at : Popped
  pub rest : List Popped
  pub all : pops ≡ first ++ at ∷ rest
  pub last : List Doing
  pub lacks : MayLack lines n last
  pub is : p.doings ≡ (all_taken lines n ds first ++ last) ++ Left (RingFrame at.from at.number) ∷ []
  pub more : List Doing
  pub whole : with_taken lines n (all_taken lines n ds first) at ≡ (all_taken lines n ds first ++ last) ++ more
  pub delivers : IsDelivered (says lines at.from n at.number)
  pub full : AreDoingsFull (stamp_for at (all_taken lines n ds first ++ last)) (all_taken lines n ds first ++ last)

pub halts-in-pops : (lines : List Disturb) (n : NodeId) (ds : List Doing) (pops : List Popped) →
    (pop_parts lines n (going ds) pops).halted ≡ true →
    HaltsInPops lines n ds pops (pop_parts lines n (going ds) pops)
halts-in-pops lines n ds [] e = absurd (cc (e))
halts-in-pops lines n ds (x ∷ pops) e = go (now.halted) refl (halts-in-pops lines n next pops) e
  where
    o : Option DisturbKind
    o = says lines x.from n x.number

    now : Progress
    now = pop_part o ds x

    next : List Doing
    next = taken_as o ds x

    go : (b : Bool) → now.halted ≡ b → ((pop_parts lines n (going next) pops).halted ≡ true →
        HaltsInPops lines n next pops (pop_parts lines n (going next) pops)) →
        (pop_parts lines n now pops).halted ≡ true → HaltsInPops lines n ds (x ∷ pops) (pop_parts lines n now pops)
    go true h later e =
        let r = halts_at o lines n ds x h in
        record {
          first = [];
          at = x;
          rest = pops;
          all = refl;
          last = r.last;
          lacks = r.lacks refl;
          is = ap (λ (p : Progress). p.doings) (still-popped lines n now pops h) ∙ r.is;
          more = r.rest;
          whole = r.whole;
          delivers = r.delivers;
          full = r.full;
        }
    go false h later e =
        let same : pop_parts lines n now pops ≡ pop_parts lines n (going next) pops =
        ap (λ p. pop_parts lines n p pops) (is-going now next (pop-does o ds x) h) in
        let r = later (sym (ap (λ (p : Progress). p.halted) same) ∙ e) in
        record {
          first = x ∷ r.first;
          at = r.at;
          rest = r.rest;
          all = ap (λ ps. x ∷ ps) r.all;
          last = r.last;
          lacks = r.lacks;
          is = ap (λ (p : Progress). p.doings) same ∙ r.is;
          more = r.more;
          whole = r.whole;
          delivers = r.delivers;
          full = r.full;
        }

-- What a node does in a round is a turn, or a first part of one; what it takes comes in order, and was sent.
use Rattle.std.proofs.{Common.{◌≡◌, ◌≤◌, ℕ, Bool, true, false, cond, nat_eq, List, [], ◌∷◌, ◌++◌, refl, sym, ap, ◌∙◌, subst, arith, append-nil, append_assoc}, lemmas.List.append_cancel_left}
use Rattle.std.specs.{Prelude.◌||◌, List.{AllByRecursion, range_with_len}}
use Rattle.ason_base.specs.{declared.ids.NodeId.NodeId, declared.commands.Disturb.Disturb, Network.Network}
use Rattle.ason_base.proofs.{Members.all-right, Bridges.same_node}
use Rattle.world_rules.specs.WorldRuns.{is_world_channel}
use Rattle.round_rules.specs.{Doings.{Doing, Left}, Functions.Popped, Halts.HasHalted, Limits.Progress, Records.Record, Rings.{count_of, got_from, handed, is_number_in, standing}, Rounds.{AreFramesAt, IsRoundAt, NumbersRise, WasSentTo, numbers_by}, Turns.IsTurnOf, Unfinished.{CameToEnd, EndsPart, HaltedAtLimit, IsHaltedAt, NotBegun, StopsLeaveWhatIsAtHand}}
use Rattle.round_rules.proofs.{FleetNumbers.{rises-filter, rises-range}, Got.turn-got, Handing.handed-in, NoPosts.{HasNoPost, cut-adds, left-posts, turn-adds}, Numbers.{got-append, in-append, in-first}, Reaching.turns-halt, Standing.standing-is-left, MadeTurns.{MadeTurn, made-turn}}

-- what the node took was sent on a channel to it, and not dropped
abbrev pub TakesWhatWasSent : Network → Record → NodeId → List Doing → Type 0
TakesWhatWasSent t after n added =
    (u : NodeId) (k : ℕ) → is_number_in (got_from u added) k ≡ true →
    (is_world_channel t u n ≡ true) × (k ≤ count_of t after u n) × (is_number_in (after.dropped u.0 n.0) k ≡ false)

-- One node's part of a round: a turn with a tick, in which each frame is taken that stood in one of its rings. None is
-- passed over: those that stand there come after those that were taken.
pub record RoundPart (t : Network) (lines : List Disturb) (before after : Record) (n : NodeId) : Type 0 where
  pub added : List Doing
  pub all : after.doings n.0 ≡ before.doings n.0 ++ added
  pub turn : IsTurnOf t lines n true (before.doings n.0) added
  pub taken : (u : NodeId) (k : ℕ) → is_world_channel t u n ≡ true → is_number_in (standing t before u n) k ≡ true →
      is_number_in (got_from u added) k ≡ true
  pub order : (u : NodeId) → is_world_channel t u n ≡ true →
      NumbersRise 0 (got_from u (after.doings n.0) ++ standing t after u n)
  pub sent : TakesWhatWasSent t after n added

-- Frames

-- whence frames were taken a channel leads
by_joined : (t : Network) (r : Record) (n u : NodeId) (k : ℕ) (ps : List Popped) → AllByRecursion (WasSentTo t r n) ps →
    is_number_in (numbers_by u ps) k ≡ true → is_world_channel t u n ≡ true
by_joined t r n u k [] all h = absurd (cc (h))
by_joined t r n u k (p ∷ ps) all h = go (nat_eq p.from.0 u.0) refl h (λ f. by_joined t r n u k ps all.1 f)
  where
    go : (b : Bool) → nat_eq p.from.0 u.0 ≡ b →
        is_number_in (cond b (p.number ∷ numbers_by u ps) (numbers_by u ps)) k ≡ true →
        (is_number_in (numbers_by u ps) k ≡ true → is_world_channel t u n ≡ true) → is_world_channel t u n ≡ true
    go true e f rest = subst (λ (v : NodeId). is_world_channel t v n ≡ true) (same_node p.from u e) all.0.joined
    go false e f rest = rest f

module _ (t : Network) (before after : Record) (n : NodeId) (due pops : List Popped)
    (frames : AreFramesAt t before after n due pops) where
  -- each of them was sent on a channel to the node, and not dropped
  frames_sent : (u : NodeId) (k : ℕ) → is_number_in (numbers_by u pops) k ≡ true →
      (is_world_channel t u n ≡ true) × (k ≤ count_of t after u n) × (is_number_in (after.dropped u.0 n.0) k ≡ false)
  frames_sent u k h = (joined, there.0, there.1)
    where
      joined : is_world_channel t u n ≡ true
      joined = by_joined t after n u k pops (all-right (WasSentTo t after n) due pops frames.sent) h

      first : is_number_in (got_from u (before.doings n.0) ++ numbers_by u pops) k ≡ true
      first =
          in-append (got_from u (before.doings n.0)) (numbers_by u pops) k
          ∙ ap (λ b. is_number_in (got_from u (before.doings n.0)) k || b) h
          ∙ or_true (is_number_in (got_from u (before.doings n.0)) k)
        where
          or_true : (b : Bool) → (b || true) ≡ true
          or_true true = refl
          or_true false = refl

      there : (k ≤ count_of t after u n) × (is_number_in (after.dropped u.0 n.0) k ≡ false)
      there =
          let is = frames.first u joined in
          handed-in (after.dropped u.0 n.0) (count_of t after u n) k
          (ap (λ ks. is_number_in ks k) (sym is.1)
          ∙ in-first (got_from u (before.doings n.0) ++ numbers_by u pops) is.0 k first)

  -- none is passed over
  frames_rise : (u : NodeId) → is_world_channel t u n ≡ true →
      got_from u (after.doings n.0) ≡ got_from u (before.doings n.0) ++ numbers_by u pops →
      NumbersRise 0 (got_from u (after.doings n.0) ++ standing t after u n)
  frames_rise u joined got =
      let is = frames.first u joined in
      let whole : handed t after u n ≡ got_from u (after.doings n.0) ++ is.0 = sym is.1 ∙ ap (λ ks. ks ++ is.0) (sym got) in
      subst (NumbersRise 0)
      (whole ∙ ap (λ ks. got_from u (after.doings n.0) ++ ks) (sym (standing-is-left t after u n is.0 whole)))
      (rises-filter _ 0 (range_with_len 1 (count_of t after u n)) (rises-range 0 1 (count_of t after u n) (omega arith)))

-- What a node's part of a round is.
pub round-part : (t : Network) (lines : List Disturb) (before after : Record) (n : NodeId) →
    IsRoundAt t lines before after n → RoundPart t lines before after n
round-part t lines before after n r = record {
  added = f.added;
  all = f.all;
  turn = f.turn;
  taken = λ u k joined h. ap (λ ks. is_number_in ks k) (f.got u) ∙ r.taken u k joined h;
  order = λ u joined. frames_rise t before after n r.due r.pops r.frames u joined (f.got_all u);
  sent = λ u k h. frames_sent t before after n r.due r.pops r.frames u k
      (ap (λ ks. is_number_in ks k) (sym (f.got u)) ∙ h);
}
  where
    f : MadeTurn t lines n true (before.doings n.0) (after.doings n.0) r.pops
    f = made-turn t lines n true (before.doings n.0) (after.doings n.0) r.due r.pops r.frames.held r.turn

-- One node's part of a round that a limit ends: nothing is posted in it, and what is taken was sent.
pub record EndedPart (t : Network) (before after : Record) (n : NodeId) : Type 0 where
  pub added : List Doing
  pub all : after.doings n.0 ≡ before.doings n.0 ++ added
  pub no_post : HasNoPost added
  pub sent : TakesWhatWasSent t after n added

-- the turn that halted
halts_of : (t : Network) (lines : List Disturb) (before after : Record) (n : NodeId)
    (r : IsHaltedAt t lines before after n) → HasHalted t lines n true (before.doings n.0) r.due r.pops
halts_of t lines before after n r =
    turns-halt t lines n true (before.doings n.0) r.due r.pops r.frames.held (ap (λ (p : Progress). p.halted) r.turn)

-- What a node leaves at its limit was at hand.
pub stops-leave-what-is-at-hand : StopsLeaveWhatIsAtHand
stops-leave-what-is-at-hand t lines before after n r =
    let h = halts_of t lines before after n r in
    record {
      added = h.added;
      left = h.left;
      all = sym (ap (λ (p : Progress). p.doings) r.turn) ∙ h.all;
      cut = h.cut;
      hand = h.hand;
    }

halted_part : (t : Network) (lines : List Disturb) (before after : Record) (n : NodeId) →
    IsHaltedAt t lines before after n → EndedPart t before after n
halted_part t lines before after n r = record {
  added = h.added ++ Left h.left ∷ [];
  all = all ∙ append_assoc (before.doings n.0) h.added (Left h.left ∷ []);
  no_post = left-posts h.added h.left (cut-adds t lines n true (before.doings n.0) h.added h.cut).0;
  sent = λ u k e. frames_sent t before after n r.due r.pops r.frames u k
      (ap (λ ks. is_number_in ks k) (sym (got u)) ∙ in-first (got_from u h.added) (got_from u h.rest) k
      (ap (λ ks. is_number_in ks k) (sym (left_none u)) ∙ e));
}
  where
    h : HasHalted t lines n true (before.doings n.0) r.due r.pops
    h = halts_of t lines before after n r

    all : after.doings n.0 ≡ (before.doings n.0 ++ h.added) ++ Left h.left ∷ []
    all = sym (ap (λ (p : Progress). p.doings) r.turn) ∙ h.all

    left_none : (u : NodeId) → got_from u (h.added ++ Left h.left ∷ []) ≡ got_from u h.added
    left_none u = got-append u h.added (Left h.left ∷ []) ∙ append-nil (got_from u h.added)

    got : (u : NodeId) → got_from u h.added ++ got_from u h.rest ≡ numbers_by u r.pops
    got u =
        append_cancel_left (got_from u (before.doings n.0)) (got_from u h.added ++ got_from u h.rest)
        (numbers_by u r.pops)
        (sym (append_assoc (got_from u (before.doings n.0)) (got_from u h.added) (got_from u h.rest))
        ∙ ap (λ ks. ks ++ got_from u h.rest) (sym (got-append u (before.doings n.0) h.added))
        ∙ sym (got-append u (before.doings n.0 ++ h.added) h.rest) ∙ ap (got_from u) (sym h.whole)
        ∙ turn-got u t lines n true (before.doings n.0) r.due r.pops)

-- What it is.
pub ended-part : (t : Network) (lines : List Disturb) (before after : Record) (n : NodeId) →
    EndsPart t lines before after n → EndedPart t before after n
ended-part t lines before after n (CameToEnd r) =
    let p = round-part t lines before after n r in
    record {
      added = p.added;
      all = p.all;
      no_post = (turn-adds t lines n true (before.doings n.0) p.added p.turn).0;
      sent = p.sent;
    }
ended-part t lines before after n (HaltedAtLimit h) = halted_part t lines before after n h
ended-part t lines before after n (NotBegun same) = record {
  added = [];
  all = same ∙ sym (append-nil (before.doings n.0));
  no_post = refl;
  sent = λ u k h. absurd (cc (h));
}

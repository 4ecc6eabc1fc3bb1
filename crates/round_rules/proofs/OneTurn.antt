-- What one turn of a station makes of what its node did.
use Rattle.std.proofs.{Common.{◌≡◌, ℕ, Bool, true, false, List, [], ◌∷◌, ◌++◌, filter, refl, sym, ap, ◌∙◌, subst, append-nil, append_assoc}, lemmas.List.append_cancel_left}
use Rattle.std.specs.{List.{AllZip, Contains, list_any}}
use Rattle.ason_base.specs.{Network.Network, declared.commands.Disturb.Disturb, declared.ids.NodeId.NodeId}
use Rattle.world_merge.specs.Logs.{is_posted}
use Rattle.station_rings.specs.LinkStates.{LinkState}
use Rattle.round_rules.specs.{Doings.{Doing, Left, deeds_in}, Functions.Popped, Halts.HasHalted, RecordLaws.AddsATurn, Limits.turn_to, Lines.says, Rings.{got_from, is_number_in}, Turns.IsTurnOf, Unfinished.is_left, Moves.{HasMoved, peers_of}, States.{IsStationOf, StationState}, Turned.{HasMadeTurn, HaveComeTo, IsPoppedHeld, StarvesTo, TurnsTo, all_of, comes_to_end, due_parcels, is_at_limit, is_starved}, declared.turns.Turn.Turn, declared.turns.Turn.TheVariants.{AtLimit, Idle, Starved, Worked}, Rounds.numbers_by}
use Rattle.round_rules.proofs.{Ending.turns-end, Reaching.turns-halt, Turning.functions-are-turns, Numbers.got-append, Got.{from-one-of, turn-got}, Moving.moved-none, NoLefts.left-last, NoPosts.{AddsNeither, cut-adds, left-posts, lost-adds, neither-append, turn-adds}, Turned.{are-held, from-peers, told-turn}}
use Rattle.round_rules.proofs.Numbers.{in-first}

-- no link moved
pub all-moved-none : (links : List LinkState) → AllZip HasMoved links links
all-moved-none [] = tt
all-moved-none (l ∷ links) = ((moved-none l).0, all-moved-none links)

pub record TurnHasDone (t : Network) (lines : List Disturb) (n : NodeId) (tick : Bool) (ds : List Doing)
    (near : List NodeId) (new : StationState) (end : Turn) : Type 0 where
  pub added : List Doing
  pub stands : IsStationOf t n (ds ++ added) new
  pub no_post : filter is_posted (deeds_in added) ≡ []
  pub from_near : is_starved end ≡ false → (u : NodeId) (k : ℕ) → is_number_in (got_from u added) k ≡ true →
      Contains near u
  pub whole : comes_to_end end ≡ true → IsTurnOf t lines n tick ds added
  pub left : list_any is_left added ≡ is_at_limit end

-- what one turn popped, and what it did
pub record OneTurn (t : Network) (n : NodeId) (tick : Bool) (ds : List Doing) (old new : StationState)
    (halted : Bool) (added : List Doing) : Type 0 where
  pub due : List Popped
  pub are_due : AllZip IsPoppedHeld (due_parcels tick old.held) due
  pub pops : List (List Popped)
  pub are_pops : HaveComeTo halted old.links new.links pops
  pub all : ds ++ added ≡ (turn_to t old.lines n tick ds due (all_of pops)).doings
  pub halts : (turn_to t old.lines n tick ds due (all_of pops)).halted ≡ halted

-- what it popped and did, of what it came to
one-turn : {t : Network} {n : NodeId} {tick : Bool} {ds : List Doing} {old new : StationState} {halted : Bool}
    (f : TurnsTo t n ds tick halted old new) (added : List Doing) →
    (turn_to t old.lines n tick ds f.due (all_of f.pops)).doings ≡ ds ++ added →
    OneTurn t n tick ds old new halted added
one-turn f added all = record {
  due = f.due;
  are_due = f.are_due;
  pops = f.pops;
  are_pops = f.are_pops;
  all = sym all;
  halts = f.halts;
}

module _ (t : Network) (lines : List Disturb) (n : NodeId) (tick : Bool) (ds : List Doing)
    (old new : StationState) (told : (u : NodeId) (k : ℕ) → says old.lines u n k ≡ says lines u n k)
    (is : IsStationOf t n ds old) where
  -- a turn that comes to its end
  ends : (end : Turn) → is_at_limit end ≡ false → TurnsTo t n ds tick false old new →
      (done : TurnHasDone t lines n tick ds (peers_of old.links) new end)
      × OneTurn t n tick ds old new false done.added
  ends end not_cut f = (
    record {
      added = a.added;
      stands = subst (λ ks. IsStationOf t n ks new) all f.stands;
      no_post = (turn-adds t old.lines n tick ds a.added a.turn).0;
      from_near = λ h u k there. from-one-of u (peers_of old.links) k (all_of f.pops)
          (from-peers false old.links new.links f.pops f.are_pops)
          (subst (λ ks. is_number_in ks k ≡ true) (took u) there);
      whole = λ h. told-turn t old.lines lines n tick ds a.added told a.turn;
      left = (turn-adds t old.lines n tick ds a.added a.turn).1 ∙ sym not_cut;
    },
    one-turn f a.added all,
  )
    where
      a : AddsATurn t old.lines n tick ds f.due (all_of f.pops)
      a = functions-are-turns t old.lines n tick ds f.due (all_of f.pops) (are-held t n tick ds old f.due is f.are_due)

      all : (turn_to t old.lines n tick ds f.due (all_of f.pops)).doings ≡ ds ++ a.added
      all = turns-end t old.lines n tick ds f.due (all_of f.pops) f.halts ∙ a.all

      took : (u : NodeId) → got_from u a.added ≡ numbers_by u (all_of f.pops)
      took u =
          append_cancel_left (got_from u ds) (got_from u a.added) (numbers_by u (all_of f.pops))
          (sym (got-append u ds a.added) ∙ ap (got_from u) (sym a.all)
          ∙ turn-got u t old.lines n tick ds f.due (all_of f.pops))

  -- a turn that halts
  halts : TurnsTo t n ds tick true old new →
      (done : TurnHasDone t lines n tick ds (peers_of old.links) new AtLimit)
      × OneTurn t n tick ds old new true done.added
  halts f = (
    record {
      added = h.added ++ Left h.left ∷ [];
      stands = subst (λ ks. IsStationOf t n ks new) all f.stands;
      no_post = left-posts h.added h.left (cut-adds t old.lines n tick ds h.added h.cut).0;
      from_near = λ e u k there. from-one-of u (peers_of old.links) k (all_of f.pops)
          (from-peers true old.links new.links f.pops f.are_pops)
          (subst (λ ks. is_number_in ks k ≡ true) (took u)
          (in-first (got_from u h.added) (got_from u h.rest) k
          (subst (λ ks. is_number_in ks k ≡ true) (no_more u) there)));
      whole = λ e. absurd (cc (e));
      left = left-last h.added h.left (cut-adds t old.lines n tick ds h.added h.cut).1;
    },
    one-turn f (h.added ++ Left h.left ∷ []) all,
  )
    where
      h : HasHalted t old.lines n tick ds f.due (all_of f.pops)
      h =
          turns-halt t old.lines n tick ds f.due (all_of f.pops)
          (are-held t n tick ds old f.due is f.are_due) f.halts

      all : (turn_to t old.lines n tick ds f.due (all_of f.pops)).doings ≡ ds ++ (h.added ++ Left h.left ∷ [])
      all = h.all ∙ append_assoc ds h.added (Left h.left ∷ [])

      no_more : (u : NodeId) → got_from u (h.added ++ Left h.left ∷ []) ≡ got_from u h.added
      no_more u = got-append u h.added (Left h.left ∷ []) ∙ append-nil (got_from u h.added)

      took : (u : NodeId) → got_from u h.added ++ got_from u h.rest ≡ numbers_by u (all_of f.pops)
      took u =
          append_cancel_left (got_from u ds) (got_from u h.added ++ got_from u h.rest)
          (numbers_by u (all_of f.pops))
          (sym (append_assoc (got_from u ds) (got_from u h.added) (got_from u h.rest))
          ∙ ap (λ ks. ks ++ got_from u h.rest) (sym (got-append u ds h.added))
          ∙ sym (got-append u (ds ++ h.added) h.rest) ∙ ap (got_from u) (sym h.whole)
          ∙ turn-got u t old.lines n tick ds f.due (all_of f.pops))

  starves : StarvesTo t old.lines n ds tick new → TurnHasDone t lines n tick ds (peers_of old.links) new Starved
  starves f = record {
    added = f.made ++ f.last;
    stands = f.stands;
    no_post = neither.0;
    from_near = λ e. absurd (cc (e));
    whole = λ e. absurd (cc (e));
    left = neither.1;
  }
    where
      neither : AddsNeither (f.made ++ f.last)
      neither =
          neither-append f.made f.last (cut-adds t old.lines n tick ds f.made f.cut)
          (lost-adds old.lines n f.last f.is_last)

  pub record OneDone (end : Turn) : Type 0 where
    pub done : TurnHasDone t lines n tick ds (peers_of old.links) new end
    pub one : is_starved end ≡ false → OneTurn t n tick ds old new (is_at_limit end) done.added

  pub one-done : (end : Turn) → HasMadeTurn tick old new end → OneDone end
  one-done (Worked k) f =
      let e = ends (Worked k) refl (f.turned.2 t n ds is) in record { done = e.0; one = λ h. e.1 }
  one-done Idle f = let e = ends Idle refl (f.turned.1 t n ds is) in record { done = e.0; one = λ h. e.1 }
  one-done AtLimit f = let e = halts (f.turned t n ds is) in record { done = e.0; one = λ h. e.1 }
  one-done Starved f = record { done = starves (f.turned t n ds is); one = λ h. absurd (cc (h)) }

-- What all turns of a station in a round make of what its node did.
use Rattle.std.proofs.{Common.{◌≡◌, ℕ, zero, suc, Bool, true, false, List, [], ◌∷◌, ◌++◌, refl, sym, ap, ◌∙◌, subst, append-nil, append_assoc, ◌⊎◌, inl, inr}, lemmas.List.Concat.flat_map-append, lemmas.List.Folds.list_any-append}
use Rattle.std.specs.{Prelude.◌||◌, List.{AllZip, Contains, list_any}}
use Rattle.ason_base.specs.{Network.Network, declared.commands.Disturb.Disturb, declared.ids.NodeId.NodeId}
use Rattle.station_rings.specs.LinkStates.{LinkState}
use Rattle.round_rules.specs.{Doings.Doing, Lines.says, Rings.{got_from, is_number_in}, Takings.{Taking, all_doings, doings_of}, Turns.IsTurnOf, Unfinished.is_left, Moves.{AreApart, ArePeersApart, HasMoved, IsDrained, peers_of}, States.{IsStationOf, StationState}, Turned.{HasMadeTurn, HaveMadeTurns, comes_to_end, is_at_limit, is_starved}, declared.turns.Turn.Turn}
use Rattle.round_rules.proofs.{AllTurns.{AllTurns, all-then, one-alone}, Composing.{later-turn, turns-make-a-turn}, Numbers.{got-append, in-append}, Links.{all-drained-moved, all-moved-twice}, NoPosts.posts-append, OneTurn.{OneDone, OneTurn, TurnHasDone, all-moved-none, one-done}, TurnEnds.{halted-fed, not-halted, not-starved}}

-- The first of the turns, where all came to their end; the later ones did nothing but take frames.
pub record FirstTurn (t : Network) (n : NodeId) (tick : Bool) (ds : List Doing) (old new : StationState)
    (added : List Doing) : Type 0 where
  pub mid : StationState
  pub part : List Doing
  pub one : OneTurn t n tick ds old mid false part
  pub stands : IsStationOf t n (ds ++ part) mid
  pub drained : AllZip IsDrained old.links mid.links
  pub moved : AllZip HasMoved mid.links new.links
  pub takings : List Taking
  pub all : added ≡ part ++ all_doings takings

-- The last of the turns halted, after others, which came to their end.
pub record LaterHalt (t : Network) (lines : List Disturb) (n : NodeId) (tick : Bool) (ds : List Doing)
    (old new : StationState) (added : List Doing) : Type 0 where
  pub mid : StationState
  pub part : List Doing
  pub last : List Doing
  pub all : added ≡ part ++ last
  pub whole : IsTurnOf t lines n tick ds part
  pub stands : IsStationOf t n (ds ++ part) mid
  pub drained : AllZip IsDrained old.links mid.links
  pub halted : OneTurn t n false (ds ++ part) mid new true last
  pub moved : AllZip HasMoved mid.links new.links

-- the first turn halted, or a later one
abbrev pub IsHalt : Network → List Disturb → NodeId → Bool → List Doing → StationState → StationState → List Doing →
    Type 0
IsHalt t lines n tick ds old new added =
    OneTurn t n tick ds old new true added ⊎ LaterHalt t lines n tick ds old new added

-- Turns and then turns

peers_kept : (xs ys : List LinkState) → AllZip HasMoved xs ys → peers_of ys ≡ peers_of xs
peers_kept [] [] all = refl
peers_kept [] (y ∷ ys) all = absurd all
peers_kept (x ∷ xs) [] all = absurd all
peers_kept (x ∷ xs) (y ∷ ys) all = λ i. (all.0.peer i) ∷ (peers_kept xs ys all.1 i)

pub record HaveDone (t : Network) (lines : List Disturb) (n : NodeId) (tick : Bool) (ds : List Doing)
    (old new : StationState) (end : Turn) : Type 0 where
  pub done : TurnHasDone t lines n tick ds (peers_of old.links) new end
  pub lines_kept : new.lines ≡ old.lines
  pub links : AllZip HasMoved old.links new.links
  pub drained : comes_to_end end ≡ true → AllZip IsDrained old.links new.links
  pub first : comes_to_end end ≡ true → FirstTurn t n tick ds old new done.added
  pub halt : is_at_limit end ≡ true → IsHalt t lines n tick ds old new done.added
  pub turns : is_starved end ≡ false → AllTurns t n tick ds old new (is_at_limit end) done.added

-- with other words for the neighbours
abbrev pub near-done : (t : Network) (lines : List Disturb) (n : NodeId) (tick : Bool) (ds : List Doing)
    (near far : List NodeId) (new : StationState) (end : Turn) → near ≡ far →
    TurnHasDone t lines n tick ds near new end → TurnHasDone t lines n tick ds far new end
near-done t lines n tick ds near far new end same d = record {
  added = d.added;
  stands = d.stands;
  no_post = d.no_post;
  from_near = λ h u k there. subst (λ ns. Contains ns u) same (d.from_near h u k there);
  whole = d.whole;
  left = d.left;
}

abbrev then_done : (t : Network) (lines : List Disturb) (n : NodeId) (tick : Bool) (ds : List Doing)
    (near : List NodeId)
    (mid new : StationState) (answer end : Turn) → comes_to_end answer ≡ true →
    (one : TurnHasDone t lines n tick ds near mid answer) → TurnHasDone t lines n false (ds ++ one.added) near new end →
    TurnHasDone t lines n tick ds near new end
then_done t lines n tick ds near mid new answer end ended one two = record {
  added = one.added ++ two.added;
  stands = subst (λ ks. IsStationOf t n ks new) (append_assoc ds one.added two.added) two.stands;
  no_post = posts-append one.added two.added one.no_post two.no_post;
  from_near = λ h u k there. go h u k (is_number_in (got_from u one.added) k) refl
      (sym (in-append (got_from u one.added) (got_from u two.added) k)
      ∙ ap (λ ks. is_number_in ks k) (sym (got-append u one.added two.added)) ∙ there);
  whole = λ h. turns-make-a-turn t lines n tick ds one.added two.added (one.whole ended) (two.whole h);
  left = list_any-append is_left one.added two.added
      ∙ ap (λ b. b || list_any is_left two.added) (one.left ∙ not-halted answer ended) ∙ two.left;
}
  where
    go : is_starved end ≡ false → (u : NodeId) (k : ℕ) (b : Bool) → is_number_in (got_from u one.added) k ≡ b →
        (is_number_in (got_from u one.added) k || is_number_in (got_from u two.added) k) ≡ true → Contains near u
    go h u k true e f = one.from_near (not-starved answer ended) u k e
    go h u k false e f = two.from_near h u k (ap (λ b. b || is_number_in (got_from u two.added) k) (sym e) ∙ f)

-- the first turn of one or more
first_of : (t : Network) (lines : List Disturb) (n : NodeId) (tick : Bool) (ds : List Doing) (near : List NodeId)
    (old new : StationState) (end : Turn) (done : TurnHasDone t lines n tick ds near new end) →
    OneTurn t n tick ds old new false done.added → AllZip IsDrained old.links new.links →
    FirstTurn t n tick ds old new done.added
first_of t lines n tick ds near old new end done one drained = record {
  mid = new;
  part = done.added;
  one = one;
  stands = done.stands;
  drained = drained;
  moved = all-moved-none new.links;
  takings = [];
  all = sym (append-nil done.added);
}

then_first : (t : Network) (lines : List Disturb) (n : NodeId) (tick : Bool) (ds : List Doing)
    (old mid new : StationState) (one two : List Doing) → IsTurnOf t lines n tick ds one →
    IsTurnOf t lines n false (ds ++ one) two → FirstTurn t n tick ds old mid one → AllZip HasMoved mid.links new.links →
    FirstTurn t n tick ds old new (one ++ two)
then_first t lines n tick ds old mid new one two turn later f links = record {
  mid = f.mid;
  part = f.part;
  one = f.one;
  stands = f.stands;
  drained = f.drained;
  moved = all-moved-twice f.mid.links mid.links new.links f.moved links;
  takings = f.takings ++ later.takings;
  all =
      ap (λ ks. ks ++ two) f.all ∙ append_assoc f.part (all_doings f.takings) two
      ∙ ap (λ ks. f.part ++ ks) (ap (λ ks. all_doings f.takings ++ ks) (later-turn t lines n tick ds one turn two later)
      ∙ sym (flat_map-append doings_of f.takings later.takings));
}

-- what is drained moved
all_drained : (xs ys : List LinkState) → AllZip IsDrained xs ys → AllZip HasMoved xs ys
all_drained [] [] all = tt
all_drained [] (y ∷ ys) all = absurd all
all_drained (x ∷ xs) [] all = absurd all
all_drained (x ∷ xs) (y ∷ ys) all = (all.0.0, all_drained xs ys all.1)

-- turns that came to their end, and then some of which the last halted
halts_later : (t : Network) (lines : List Disturb) (n : NodeId) (tick : Bool) (ds : List Doing)
    (old mid new : StationState) (one two : List Doing) → IsTurnOf t lines n tick ds one →
    IsStationOf t n (ds ++ one) mid → AllZip IsDrained old.links mid.links →
    AllZip HasMoved mid.links new.links → IsHalt t lines n false (ds ++ one) mid new two →
    IsHalt t lines n tick ds old new (one ++ two)
halts_later t lines n tick ds old mid new one two whole stands drained links (inl h) = inr (record {
  mid = mid;
  part = one;
  last = two;
  all = refl;
  whole = whole;
  stands = stands;
  drained = drained;
  halted = h;
  moved = links;
})
halts_later t lines n tick ds old mid new one two whole stands drained links (inr l) = inr (record {
  mid = l.mid;
  part = one ++ l.part;
  last = l.last;
  all = ap (λ ks. one ++ ks) l.all ∙ sym (append_assoc one l.part l.last);
  whole = turns-make-a-turn t lines n tick ds one l.part whole l.whole;
  stands = subst (λ ks. IsStationOf t n ks l.mid) (append_assoc ds one l.part) l.stands;
  drained = all-drained-moved old.links mid.links l.mid.links drained (all_drained mid.links l.mid.links l.drained);
  halted = subst (λ ks. OneTurn t n false ks l.mid new true l.last) (append_assoc ds one l.part) l.halted;
  moved = l.moved;
})

then_all : (t : Network) (lines : List Disturb) (n : NodeId) (tick : Bool) (ds : List Doing)
    (old mid new : StationState) (answer end : Turn) → HasMadeTurn tick old mid answer → comes_to_end answer ≡ true →
    (first : TurnHasDone t lines n tick ds (peers_of old.links) mid answer) →
    FirstTurn t n tick ds old mid first.added → AllTurns t n tick ds old mid false first.added →
    HaveDone t lines n false (ds ++ first.added) mid new end → HaveDone t lines n tick ds old new end
then_all t lines n tick ds old mid new answer end turn ended first popped alone rest = record {
  done =
      then_done t lines n tick ds (peers_of old.links) mid new answer end ended first
      (near-done t lines n false (ds ++ first.added) (peers_of mid.links) (peers_of old.links) new end
      (peers_kept old.links mid.links turn.links) rest.done);
  lines_kept = rest.lines_kept ∙ turn.lines;
  links = all-moved-twice old.links mid.links new.links turn.links rest.links;
  drained = λ e. all-drained-moved old.links mid.links new.links (turn.drained ended) rest.links;
  first = λ e. then_first t lines n tick ds old mid new first.added rest.done.added (first.whole ended)
      (rest.done.whole e) popped rest.links;
  halt = λ e. halts_later t lines n tick ds old mid new first.added rest.done.added (first.whole ended) first.stands
      (turn.drained ended) rest.links (rest.halt e);
  turns = λ e. all-then t lines n tick ds old mid new (is_at_limit end) first.added rest.done.added (first.whole ended)
      turn.lines rest.links alone (rest.turns e);
}

-- what a number of turns do
pub have-done : (t : Network) (lines : List Disturb) (n : NodeId) (many : ℕ) (tick : Bool) (ds : List Doing)
    (old new : StationState) (end : Turn) → ((u : NodeId) (k : ℕ) → says old.lines u n k ≡ says lines u n k) →
    IsStationOf t n ds old → ArePeersApart old.links → HaveMadeTurns many tick old new end →
    HaveDone t lines n tick ds old new end
have-done t lines n zero tick ds old new end told is apart f = absurd f
have-done t lines n (suc many) tick ds old new end told is apart (inl turn) =
    let one = one-done t lines n tick ds old new told is end turn in
    record {
      done = one.done;
      lines_kept = turn.lines;
      links = turn.links;
      drained = turn.drained;
      first = λ e. first_of t lines n tick ds (peers_of old.links) old new end one.done
          (subst (λ b. OneTurn t n tick ds old new b one.done.added) (not-halted end e) (one.one (not-starved end e)))
          (turn.drained e);
      halt = λ e. inl
          (subst (λ b. OneTurn t n tick ds old new b one.done.added) e (one.one (halted-fed end e)));
      turns = λ e. one-alone t n tick ds old new (is_at_limit end) one.done.added is apart turn.links (one.one e);
    }
have-done t lines n (suc many) tick ds old new end told is apart (inr f) =
    then_all t lines n tick ds old f.mid new f.answer end f.turn f.ended one.done
    (first_of t lines n tick ds (peers_of old.links) old f.mid f.answer one.done whole
    (f.turn.drained f.ended))
    (one-alone t n tick ds old f.mid false one.done.added is apart f.turn.links whole)
    (have-done t lines n many false (ds ++ one.done.added) f.mid new end
    (λ u k. ap (λ ls. says ls u n k) f.turn.lines ∙ told u k) one.done.stands
    (subst AreApart (sym (peers_kept old.links f.mid.links f.turn.links)) apart) f.rest)
  where
    one : OneDone t lines n tick ds old f.mid told is f.answer
    one = one-done t lines n tick ds old f.mid told is f.answer f.turn

    whole : OneTurn t n tick ds old f.mid false one.done.added
    whole =
        subst (λ b. OneTurn t n tick ds old f.mid b one.done.added) (not-halted f.answer f.ended)
        (one.one (not-starved f.answer f.ended))

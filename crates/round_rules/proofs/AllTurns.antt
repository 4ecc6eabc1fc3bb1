-- All turns of a station in a round together are one, as a function of the frames to which they come.
use Rattle.std.proofs.{Common.{◌≡◌, Bool, false, List, [], ◌∷◌, ◌++◌, map, refl, sym, ap, ◌∙◌, subst, append-nil, append_assoc}, lemmas.List.{map-append, Sums.fold-append}, ByRecursion.All-append}
use Rattle.std.specs.List.{AllByRecursion, AllZip}
use Rattle.ason_base.specs.{Network.Network, declared.commands.Disturb.Disturb, declared.ids.NodeId.NodeId}
use Rattle.hop_reliable.proofs.Members.{each-more}
use Rattle.station_rings.specs.{declared.parcel.Parcel.Parcel, LinkStates.{LinkState, view_of}}
use Rattle.round_rules.specs.{Doings.Doing, Functions.{AreHeldAs, Popped, tick_if}, Held.{HeldFrame, due_in}, Limits.{Progress, desk_part, due_parts, going, item_parts, pop_part, pop_parts, tick_part, turn_to, unless_halted}, Lines.says, Rounds.numbers_by, Turns.{IsTurnOf}, Moves.{ArePeersApart, HasMoved}, States.{IsStationOf, StationState, parcel_numbers}, Turned.{all_of, due_parcels}}
use Rattle.round_rules.proofs.{Choosing.{ThroughMiddle, zip-more, zip-then}, Composing.{desk-empty, nothing-due}, Moving.moved-then, OneTurn.OneTurn, Turned.are-held, PopsOver.{CameOver, IsPoppedOver, came-on, due-over, kept-due, pops-over, popped-over}, Got.numbers-append}

-- The turns together: the frames that were due, and those that were popped of the rings.
pub record AllTurns (t : Network) (n : NodeId) (tick : Bool) (ds : List Doing) (old new : StationState)
    (halted : Bool) (added : List Doing) : Type 0 where
  pub due : List Popped
  pub are_due : AreHeldAs (due_in (tick_if tick ds)) due
  pub pops : List Popped
  pub turn : turn_to t old.lines n tick ds due pops ≡ record { doings = ds ++ added; halted = halted }
  pub came : AllByRecursion (CameOver new.links) (due ++ pops)
  pub over : AllZip (IsPoppedOver halted pops) old.links new.links

-- One turn

-- One turn by itself.
pub one-alone : (t : Network) (n : NodeId) (tick : Bool) (ds : List Doing) (old new : StationState) (halted : Bool)
    (added : List Doing) → IsStationOf t n ds old → ArePeersApart old.links → AllZip HasMoved old.links new.links →
    OneTurn t n tick ds old new halted added → AllTurns t n tick ds old new halted added
one-alone t n tick ds old new halted added is apart moved f = record {
  due = f.due;
  are_due = are-held t n tick ds old f.due is f.are_due;
  pops = all_of f.pops;
  turn = λ i. record { doings = sym f.all i; halted = f.halts i };
  came =
      All-append (CameOver new.links) f.due (all_of f.pops)
      (each-more (CameOver old.links) (CameOver new.links) (came-on old.links new.links moved) f.due
      (due-over old.links (due_parcels tick old.held) f.due
      (kept-due tick (map view_of old.links) old.held is.stands.kept) f.are_due))
      (pops-over ds halted old.links new.links f.pops is.taken f.are_pops);
  over = popped-over halted old.links new.links f.pops apart f.are_pops;
}

-- Turns, and then turns

-- where none is held that is due, none is popped
pub no-due : (hs : List HeldFrame) (ps : List Popped) → hs ≡ [] → AreHeldAs hs ps → ps ≡ []
no-due [] [] e all = refl
no-due [] (p ∷ ps) e all = absurd all
no-due (h ∷ hs) ps e all = absurd (cc (e))

over_then : (halted : Bool) (ps qs : List Popped) (l m k : LinkState) → IsPoppedOver false ps l m →
    IsPoppedOver halted qs m k → IsPoppedOver halted (ps ++ qs) l k
over_then halted ps qs l m k one two = record {
  moved = moved-then l m k one.moved two.moved;
  head = two.head;
  rest = two.rest;
  next = two.next;
  numbers =
      numbers-append l.peer ps qs
      ∙ ap (λ ks. ks ++ numbers_by l.peer qs) (one.numbers
      ∙ ap (λ hs. parcel_numbers (one.moved.takes ++ hs)) (one.whole refl)
      ∙ ap parcel_numbers (append-nil one.moved.takes))
      ∙ ap (λ ks. parcel_numbers one.moved.takes ++ ks) (ap (λ (u : NodeId). numbers_by u qs) (sym one.moved.peer)
      ∙ two.numbers)
      ∙ sym (map-append (λ (q : Parcel). q.number) one.moved.takes (two.moved.takes ++ two.head))
      ∙ ap parcel_numbers (sym (append_assoc one.moved.takes two.moved.takes two.head));
  whole = two.whole;
}

-- Turns that came to their end, and then turns without a tick: nothing is due in these, and the desk is empty.
pub all-then : (t : Network) (lines : List Disturb) (n : NodeId) (tick : Bool) (ds : List Doing)
    (old mid new : StationState) (halted : Bool) (one two : List Doing) → IsTurnOf t lines n tick ds one →
    mid.lines ≡ old.lines → AllZip HasMoved mid.links new.links → AllTurns t n tick ds old mid false one →
    AllTurns t n false (ds ++ one) mid new halted two → AllTurns t n tick ds old new halted (one ++ two)
all-then t lines n tick ds old mid new halted one two whole same moved f g = record {
  due = f.due;
  are_due = f.are_due;
  pops = f.pops ++ g.pops;
  turn =
      fold-append pop_next at_desk f.pops g.pops
      ∙ ap (λ (p : Progress). pop_parts old.lines n p g.pops) (f.turn ∙ sym after_desk)
      ∙ ap (λ ls. pop_parts ls n (unless_halted (desk_part t n) (going (ds ++ one))) g.pops) (sym same)
      ∙ ap (λ ps. turn_to t mid.lines n false (ds ++ one) ps g.pops) (sym none)
      ∙ g.turn ∙ ap (λ ks. record { doings = ks; halted = halted }) (append_assoc ds one two);
  came =
      subst (AllByRecursion (CameOver new.links)) (append_assoc f.due f.pops g.pops)
      (All-append (CameOver new.links) (f.due ++ f.pops) g.pops
      (each-more (CameOver mid.links) (CameOver new.links) (came-on mid.links new.links moved) (f.due ++ f.pops)
      f.came)
      (subst (λ ps. AllByRecursion (CameOver new.links) (ps ++ g.pops)) none g.came));
  over =
      zip-more (ThroughMiddle (IsPoppedOver false f.pops) (IsPoppedOver halted g.pops))
      (IsPoppedOver halted (f.pops ++ g.pops))
      (λ l k b. over_then halted f.pops g.pops l b.mid k b.one b.two) old.links new.links
      (zip-then (IsPoppedOver false f.pops) (IsPoppedOver halted g.pops) old.links mid.links new.links f.over g.over);
}
  where
    pop_next : Progress → Popped → Progress
    pop_next q x = unless_halted (λ ks. pop_part (says old.lines x.from n x.number) ks x) q

    at_desk : Progress
    at_desk = unless_halted (desk_part t n) (due_parts (tick_part tick ds) f.due)

    none : g.due ≡ []
    none = no-due (due_in (ds ++ one)) g.due (nothing-due t lines n tick ds one whole) g.are_due

    after_desk : unless_halted (desk_part t n) (going (ds ++ one)) ≡ going (ds ++ one)
    after_desk = ap (λ k. item_parts k (going (ds ++ one))) (desk-empty t lines n tick ds one whole)

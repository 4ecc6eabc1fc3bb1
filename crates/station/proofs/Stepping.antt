-- The tick and one item of the desk, however they end.
use Rattle.std.proofs.{Common.{◌≡◌, ◌<◌, ◌≤◌, ◌+◌, ℕ, Bool, true, false, List, [], ◌∷◌, length, map, refl, sym, ap, ◌∙◌, append-nil, arith, subst}, lemmas.List.length-append, lemmas.Result.err_from_is_err_and}
use Rattle.std.specs.{Prelude.{max, suc, Ok, Err, OnOk, Result}, Result.IsErrAnd}
use Rattle.ason_base.specs.{declared.commands.DeskItem.DeskItem, declared.commands.Disturb.Disturb, declared.commands.Event.Event, declared.commands.Event.TheVariants.{Desk, Tick}, declared.ids.NodeId.NodeId, Network.Network}
use Rattle.control_channels.specs.declared.inputs.CoreInput.{CoreInput}
use Rattle.control_channels.specs.declared.inputs.CoreInput.TheVariants as input
use Rattle.round_rules.specs.{Doings.{Doing, TickAsked}, Functions.with_ticked, Limits.next_stamp, Ends.EndsAs, Entered.{HasEntered, able, me_of}, Stands.parcel_ticked, States.{IsStationOf, StationState}, Phases.{Phase, desk_phase, ring_phase, tick_phase}, Starts.{AreFirstItems, AreFirstTakings, StarvesAs}, Turned.NoneLost, declared.held.HeldParcel.HeldParcel}
use Rattle.station_rings.specs.LinkStates.{LinkState}
use Rattle.round_rules.proofs.{PartEnding.{able-is, full-is, going-ends, halted-ends, nothing-ends}, Parting.{item-of, tick-of}, Places.{nones-same, nones-sent, nones-then}, Starving.takings-none, Steps.{desk-halt, desk-none, desk-step}}
use Rattle.station.specs.{Desks.{DeskState, DeskSettles}, declared.halts.Halt.Halt, Entering.Enters, Leads.{StationGoesOn, IsSending, StationLeads}}
use Rattle.station.specs.declared.halts.Halt.TheVariants as halt
use Rattle.station.proofs.{Fitting.next-limit, Leading.goes-across}

-- Lists

pub record First {X : Type 0} (xs : List X) : Type 0 where
  pub item : X
  pub rest : List X
  pub is : xs ≡ item ∷ rest

pub first-of : {X : Type 0} (xs : List X) → 0 < length xs → First xs
first-of [] h = absurd (omega (arith, h))
first-of (x ∷ xs) h = record { item = x; rest = xs; is = refl }

-- Errors

-- a phase that ends with an error ends so where the error is passed on
pub passed-leads : (r : Result (Unit {0}) Halt) (e : Halt) (R : Phase) (old new : StationState) →
    IsErrAnd r (λ x. x ≡ e) → StationLeads (Err e) R old new → StationLeads r R old new
passed-leads r e R old new is leads =
    let p = err_from_is_err_and r is in subst (λ x. StationLeads x R old new) (sym (p.1 ∙ ap Err p.2)) leads

-- What stays

pub sending-entered : (i : CoreInput) (e : Event) (stamp : ℕ) (old new : StationState) →
    HasEntered i e stamp old new → IsSending old new
sending-entered i e stamp old new r = record {
  links = nones-sent stamp r.frames old.links new.links r.links;
  lines = r.lines;
  grows = omega (arith, ap length r.log ∙ length-append old.log _);
}

pub sending-then : (a b c : StationState) → IsSending a b → IsSending b c → IsSending a c
sending-then a b c f g = record {
  links = nones-then a.links b.links c.links f.links g.links;
  lines = g.lines ∙ f.lines;
  grows = omega (arith, f.grows, g.grows);
}

pub sending-none : (s : StationState) → IsSending s s
sending-none s = record { links = nones-same s.links s.links refl; lines = refl; grows = omega arith }

pub sending-same : (old new : StationState) → new ≡ old → IsSending old new
sending-same old new e = subst (IsSending old) (sym e) (sending-none old)

-- however it ends
pub given-sends : (r : Result (Unit {0}) Halt) (i : CoreInput) (e : Event) (stamp : ℕ) (old new : StationState) →
    Enters r i e stamp old new → IsSending old new
given-sends (Ok x) i e stamp old new g = sending-entered i e stamp old new g.0
given-sends (Err halt.AtLimit) i e stamp old new g = absurd g
given-sends (Err halt.OutOfMemory) i e stamp old new g = sending-same old new g

-- Want of memory

-- nothing was done, and nothing that its node made is lost
starves_none : (lines : List Disturb) (Made : List Doing → Type 0) (t : Network) (n : NodeId) (ds : List Doing)
    (new : StationState) → Made [] → IsStationOf t n ds new → StarvesAs lines Made t n ds new
starves_none lines Made t n ds new none is = record {
  made = [];
  last = [];
  is_made = none;
  is_last = NoneLost;
  stands = subst (λ es. IsStationOf t n es new) (sym (append-nil ds)) is;
}

pub tick-starves : (tick : Bool) (old new : StationState) → new ≡ old →
    StationLeads (Err halt.OutOfMemory) (tick_phase tick) old new
tick-starves tick old new e t n ds is =
    starves_none old.lines (λ made. made ≡ []) t n ds new refl (subst (IsStationOf t n ds) (sym e) is)

pub rings-starve : (old new : StationState) (first : LinkState) (place : ℕ) → new ≡ old →
    StationLeads (Err halt.OutOfMemory) (ring_phase first place) old new
rings-starve old new first place e t n ds is =
    starves_none old.lines (AreFirstTakings old.lines n) t n ds new (takings-none old.lines n)
    (subst (IsStationOf t n ds) (sym e) is)

-- nothing has changed
pub tick-refused : (x : Halt) (i : CoreInput) (e : Event) (stamp : ℕ) (tick : Bool) (old new : StationState) →
    Enters (Err x) i e stamp old new → StationLeads (Err x) (tick_phase tick) old new
tick-refused halt.AtLimit i e stamp tick old new g = absurd g
tick-refused halt.OutOfMemory i e stamp tick old new g = tick-starves tick old new g

-- The tick

pub tick-leads : (old new : StationState) (hs : List HeldParcel) → able (length old.log) (old.clock + 1) ≡ true →
    HasEntered input.Tick (Tick (me_of old)) (old.clock + 1) old new → hs ≡ map parcel_ticked old.held →
    StationLeads (Ok tt) (tick_phase true) old (record new { held = hs })
tick-leads old new hs on r held t n ds is =
    subst (λ p. EndsAs t n ds false p (record new { held = hs }))
    (sym (able-is t n ds old is TickAsked (next_stamp ds) (old.clock + 1) with_ticked
    (ap (λ k. k + 1) (sym is.stands.clock)) on))
    (going-ends t n ds _ (record new { held = hs }) (tick-of t n ds old new hs is r held))

pub tick-full : (old : StationState) → able (length old.log) (old.clock + 1) ≡ false →
    StationLeads (Err halt.AtLimit) (tick_phase true) old old
tick-full old full t n ds is =
    subst (λ p. EndsAs t n ds true p old)
    (sym (full-is t n ds old is TickAsked (next_stamp ds) (old.clock + 1) with_ticked
    (ap (λ k. k + 1) (sym is.stands.clock)) full))
    (halted-ends t n ds old is TickAsked (next-limit old full))

pub tick-none : (old : StationState) → StationLeads (Ok tt) (tick_phase false) old old
tick-none old t n ds is = nothing-ends t n ds old is

-- An item

pub item-goes : (old new : StationState) (i : DeskItem) (rest : List DeskItem) (spare : ℕ) →
    able (length old.log) (old.clock + 1) ≡ true → old.desk ≡ i ∷ rest →
    HasEntered (input.Desk i) (Desk (me_of old)) (old.clock + 1) (record old { desk = rest; spare = spare }) new →
    StationGoesOn (Ok tt) desk_phase old new
item-goes old new i rest spare on first r =
    goes-across desk_phase old new
    (λ end t n ds is.
    desk-step t n ds old is new end i on (first ∙ ap (λ items. i ∷ items) (sym r.desk)) r.lines
    (item-of t n ds i old new rest spare is first r))

-- it stays on the desk where memory is wanting
pub item-starves : (old mid : StationState) (i : DeskItem) (rest items : List DeskItem) (spare more : ℕ) →
    old.desk ≡ i ∷ rest → mid ≡ record old { desk = rest; spare = spare } → items ≡ i ∷ mid.desk →
    StationGoesOn (Err halt.OutOfMemory) desk_phase old (record mid { desk = items; spare = more })
item-starves old mid i rest items spare more first same again =
    λ t n ds is.
    starves_none old.lines (AreFirstItems (length old.desk)) t n ds (record mid { desk = items; spare = more })
    (tt, omega arith) (subst (IsStationOf t n ds) (sym whole) (record { stands = is.stands; taken = is.taken }))
  where
    desk : items ≡ old.desk
    desk = again ∙ ap (λ (s : StationState). i ∷ s.desk) same ∙ sym first

    whole : record mid { desk = items; spare = more } ≡ record old { spare = more }
    whole = λ j. record {
      controller = (same j).controller;
      desk = desk j;
      spare = more;
      links = (same j).links;
      clock = (same j).clock;
      log = (same j).log;
      held = (same j).held;
      lines = (same j).lines;
      answer = (same j).answer;
      publisher = (same j).publisher;
    }

pub item-full : (old : StationState) (i : DeskItem) (rest : List DeskItem) →
    able (length old.log) (old.clock + 1) ≡ false → old.desk ≡ i ∷ rest →
    StationGoesOn (Err halt.AtLimit) desk_phase old old
item-full old i rest full first t n ds is =
    desk-halt t n ds old is i rest full first (next-limit old full)

pub fewer-by : (a b c : ℕ) → a ≡ b → c ≡ suc b → a < c
fewer-by a b c e f = omega (arith, e, f)

abbrev pub with_desk : StationState → DeskState → StationState
with_desk s d = record s { desk = d.items; spare = d.spare }

-- however it ends
pub item-given : (r : Result (Unit {0}) Halt) (old mid : StationState) (i : DeskItem) (popped settled : DeskState) →
    able (length old.log) (old.clock + 1) ≡ true → old.desk ≡ i ∷ popped.items →
    Enters r (input.Desk i) (Desk (me_of old)) (old.clock + 1) (with_desk old popped) mid →
    DeskSettles r i (record { items = mid.desk; spare = mid.spare }) settled →
    StationGoesOn r desk_phase old (with_desk mid settled)
item-given (Ok x) old mid i popped settled on first g same =
    subst (λ d. StationGoesOn (Ok tt) desk_phase old (with_desk mid d)) (sym same)
    (item-goes old mid i popped.items popped.spare on first g.0)
item-given (Err halt.AtLimit) old mid i popped settled on first g again = absurd g
item-given (Err halt.OutOfMemory) old mid i popped settled on first g again =
    item-starves old mid i popped.items settled.items popped.spare settled.spare first g again

-- the desk has room for the item
pub given-spare : (r : Result (Unit {0}) Halt) (i : CoreInput) (e : Event) (stamp : ℕ) (old new : StationState) →
    0 < old.spare → Enters r i e stamp old new → 0 < new.spare
given-spare (Ok x) i e stamp old new room g = subst (λ k. 0 < k) (sym g.0.spare) room
given-spare (Err halt.AtLimit) i e stamp old new room g = absurd g
given-spare (Err halt.OutOfMemory) i e stamp old new room g =
    subst (λ (s : StationState). 0 < s.spare) (sym g) room

pub item-fewer : (r : Result (Unit {0}) Halt) (i : CoreInput) (e : Event) (stamp : ℕ) (old mid : StationState)
    (xs : List DeskItem) (x : DeskItem) (settled : DeskState) → xs ≡ x ∷ old.desk → Enters r i e stamp old mid →
    DeskSettles r x (record { items = mid.desk; spare = mid.spare }) settled → OnOk r (length settled.items < length xs)
item-fewer (Ok y) i e stamp old mid xs x settled first g same =
    fewer-by (length settled.items) (length old.desk) (length xs)
    (ap (λ (d : DeskState). length d.items) same ∙ ap length g.0.desk) (ap length first)
item-fewer (Err y) i e stamp old mid xs x settled first g again = tt

-- no item is left
pub desk-ends : (s : StationState) → s.desk ≡ [] → StationLeads (Ok tt) desk_phase s s
desk-ends s none t n ds is = desk-none t n ds s is none

pub none-of : {X : Type 0} (xs : List X) → length xs ≤ 0 → xs ≡ []
none-of [] h = refl
none-of (x ∷ xs) h = absurd (omega (arith, h))

-- Stamps

pub above-max : (a b k : ℕ) → k ≡ max a b → a < k + 1
above-max a b k e = grind (arith, e)

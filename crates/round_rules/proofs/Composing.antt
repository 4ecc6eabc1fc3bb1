-- All turns of a node in one round are one turn.
use Rattle.std.proofs.{Common.{◌≡◌, Bool, false, List, [], ◌∷◌, ◌++◌, length, refl, sym, ap, ◌∙◌, subst, arith, append-nil, append_assoc, inl, inr}, lemmas.List.Concat.flat_map-append, lemmas.List.Sums.fold-append, ByRecursion.All-append}
use Rattle.ason_base.specs.{declared.ids.NodeId.NodeId, declared.commands.Disturb.Disturb, Network.Network}
use Rattle.round_rules.specs.{Doings.Doing, Halts.{MayTick, TurnsMakeACutTurn}, Held.{HeldFrame, due_in, held_after, held_step}, RecordLaws.TurnsMakeATurn, Takings.{IsTaking, all_doings, doings_of}, Turns.{AreDelivered, IsTurnOf, items_after}}
use Rattle.round_rules.proofs.{Desks.empty-after, Due.{NoneDue, descends-after, due-delivered, handled-none, none-due, takings-none}}

none_delivered : (hs : List HeldFrame) (ds : List Doing) → hs ≡ [] → AreDelivered hs ds → ds ≡ []
none_delivered hs ds e all = subst (λ ks. AreDelivered ks ds) e all

no_items : (ds : List Doing) → length ds ≡ 0 → ds ≡ []
no_items [] e = refl
no_items (d ∷ ds) e = absurd (omega (arith, e))

module _ (t : Network) (lines : List Disturb) (n : NodeId) (tick : Bool) (before one : List Doing)
    (f : IsTurnOf t lines n tick before one) where
  abbrev rest : List Doing
  rest = f.items ++ all_doings f.takings

  -- nothing is due after the turn
  none : NoneDue (held_after [] (before ++ one))
  none =
      subst NoneDue (sym parts) (takings-none f.takings (held_after (held_after held f.dues) f.items)
      (subst NoneDue (sym (handled-none f.items (held_after held f.dues) f.handled))
      (due-delivered held f.dues (descends-after (before ++ f.ticks) [] tt) f.are_due)))
    where
      held : List HeldFrame
      held = held_after [] (before ++ f.ticks)

      parts : held_after [] (before ++ one) ≡
          held_after (held_after (held_after held f.dues) f.items) (all_doings f.takings)
      parts =
          ap (held_after []) (ap (λ ds. before ++ ds) f.all ∙ sym (append_assoc before f.ticks (f.dues ++ rest)))
          ∙ fold-append held_step [] (before ++ f.ticks) (f.dues ++ rest)
          ∙ fold-append held_step held f.dues rest
          ∙ fold-append held_step (held_after held f.dues) f.items (all_doings f.takings)

  pub nothing-due : due_in (before ++ one) ≡ []
  nothing-due = none-due (held_after [] (before ++ one)) none

  -- and the desk is empty
  pub desk-empty : items_after t n (before ++ one) ≡ 0
  desk-empty =
      ap (items_after t n) (ap (λ ds. before ++ ds) (f.all ∙ sym (append_assoc f.ticks f.dues rest))
      ∙ sym (append_assoc before (f.ticks ++ f.dues) rest))
      ∙ empty-after t n (before ++ (f.ticks ++ f.dues)) f.items f.takings f.handled f.count

  -- what a later turn without a tick does is taking
  pub later-turn : (two : List Doing) (g : IsTurnOf t lines n false (before ++ one) two) → two ≡ all_doings g.takings
  later-turn two g = second
    where
      after : List Doing
      after = before ++ one

      no_tick : g.ticks ≡ []
      no_tick = g.is_tick

      no_due : g.dues ≡ []
      no_due =
          none_delivered (due_in (after ++ g.ticks)) g.dues (ap (λ ds. due_in (after ++ ds)) no_tick
          ∙ ap due_in (append-nil after) ∙ nothing-due) g.are_due

      no_item : g.items ≡ []
      no_item =
          no_items g.items (g.count ∙ ap (λ ds. items_after t n (after ++ (ds ++ g.dues))) no_tick
          ∙ ap (λ ds. items_after t n (after ++ ds)) no_due ∙ ap (items_after t n) (append-nil after)
          ∙ desk-empty)

      second : two ≡ all_doings g.takings
      second =
          g.all ∙ ap (λ ds. ds ++ (g.dues ++ (g.items ++ all_doings g.takings))) no_tick
          ∙ ap (λ ds. ds ++ (g.items ++ all_doings g.takings)) no_due ∙ ap (λ ds. ds ++ all_doings g.takings) no_item

pub turns-make-a-turn : TurnsMakeATurn
turns-make-a-turn t lines n tick before one two f g = record {
  ticks = f.ticks;
  dues = f.dues;
  items = f.items;
  takings = f.takings ++ g.takings;
  all = whole;
  is_tick = f.is_tick;
  are_due = f.are_due;
  handled = f.handled;
  count = f.count;
  are_takings = All-append (IsTaking lines n) f.takings g.takings f.are_takings g.are_takings;
}
  where
    second : two ≡ all_doings g.takings
    second = later-turn t lines n tick before one f two g

    inner : (f.items ++ all_doings f.takings) ++ all_doings g.takings ≡ f.items ++ all_doings (f.takings ++ g.takings)
    inner =
        append_assoc f.items (all_doings f.takings) (all_doings g.takings)
        ∙ ap (λ ds. f.items ++ ds) (sym (flat_map-append doings_of f.takings g.takings))

    whole : one ++ two ≡ f.ticks ++ (f.dues ++ (f.items ++ all_doings (f.takings ++ g.takings)))
    whole =
        ap (λ ds. ds ++ two) f.all
        ∙ ap (λ ds. (f.ticks ++ (f.dues ++ (f.items ++ all_doings f.takings))) ++ ds) second
        ∙ append_assoc f.ticks (f.dues ++ (f.items ++ all_doings f.takings)) (all_doings g.takings)
        ∙ ap (λ ds. f.ticks ++ ds) (append_assoc f.dues (f.items ++ all_doings f.takings) (all_doings g.takings)
        ∙ ap (λ ds. f.dues ++ ds) inner)

no_more : (xs ys : List HeldFrame) → xs ++ ys ≡ [] → xs ≡ []
no_more [] ys e = refl
no_more (x ∷ xs) ys e = absurd (cc (e))

no_tick_cut : (ticks : List Doing) → MayTick false ticks → ticks ≡ []
no_tick_cut ticks (inl none) = none
no_tick_cut ticks (inr none) = none

pub turns-make-a-cut-turn : TurnsMakeACutTurn
turns-make-a-cut-turn t lines n tick before one two f g = record {
  ticks = f.ticks;
  dues = f.dues;
  items = f.items;
  takings = f.takings ++ g.takings;
  last = g.last;
  all = whole;
  is_tick = inr f.is_tick;
  freed = due_in (before ++ f.ticks);
  kept = [];
  due = sym (append-nil (due_in (before ++ f.ticks)));
  are_due = f.are_due;
  handled = f.handled;
  few = let count = f.count in omega arith;
  are_takings = All-append (IsTaking lines n) f.takings g.takings f.are_takings g.are_takings;
  lacks = g.lacks;
}
  where
    after : List Doing
    after = before ++ one

    no_tick : g.ticks ≡ []
    no_tick = no_tick_cut g.ticks g.is_tick

    no_due : g.dues ≡ []
    no_due =
        none_delivered g.freed g.dues (no_more g.freed g.kept (sym g.due ∙ ap (λ ds. due_in (after ++ ds)) no_tick
        ∙ ap due_in (append-nil after) ∙ nothing-due t lines n tick before one f)) g.are_due

    desk : items_after t n (after ++ (g.ticks ++ g.dues)) ≡ 0
    desk =
        ap (λ ds. items_after t n (after ++ (ds ++ g.dues))) no_tick
        ∙ ap (λ ds. items_after t n (after ++ ds)) no_due ∙ ap (items_after t n) (append-nil after)
        ∙ desk-empty t lines n tick before one f

    no_item : g.items ≡ []
    no_item = no_items g.items (let few = g.few in omega (arith, few, desk))

    second : two ≡ all_doings g.takings ++ g.last
    second =
        g.all ∙ ap (λ ds. ds ++ (g.dues ++ (g.items ++ (all_doings g.takings ++ g.last)))) no_tick
        ∙ ap (λ ds. ds ++ (g.items ++ (all_doings g.takings ++ g.last))) no_due
        ∙ ap (λ ds. ds ++ (all_doings g.takings ++ g.last)) no_item

    inner : (f.items ++ all_doings f.takings) ++ (all_doings g.takings ++ g.last) ≡
        f.items ++ (all_doings (f.takings ++ g.takings) ++ g.last)
    inner =
        append_assoc f.items (all_doings f.takings) (all_doings g.takings ++ g.last)
        ∙ ap (λ ds. f.items ++ ds) (sym (append_assoc (all_doings f.takings) (all_doings g.takings) g.last)
        ∙ ap (λ ds. ds ++ g.last) (sym (flat_map-append doings_of f.takings g.takings)))

    whole : one ++ two ≡ f.ticks ++ (f.dues ++ (f.items ++ (all_doings (f.takings ++ g.takings) ++ g.last)))
    whole =
        ap (λ ds. ds ++ two) f.all
        ∙ ap (λ ds. (f.ticks ++ (f.dues ++ (f.items ++ all_doings f.takings))) ++ ds) second
        ∙ append_assoc f.ticks (f.dues ++ (f.items ++ all_doings f.takings)) (all_doings g.takings ++ g.last)
        ∙ ap (λ ds. f.ticks ++ ds) (append_assoc f.dues (f.items ++ all_doings f.takings)
        (all_doings g.takings ++ g.last) ∙ ap (λ ds. f.dues ++ ds) inner)

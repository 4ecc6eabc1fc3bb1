-- A turn that is a function of what was done, of what is due and of what is popped is a turn.
use Rattle.std.proofs.Common.{◌≡◌, ◌+◌, ℕ, zero, suc, Bool, true, false, List, [], ◌∷◌, ◌++◌, length, refl, sym, ap, ◌∙◌, subst, append-nil, append_assoc}
use Rattle.std.specs.Prelude.{max, Option, Some, None}
use Rattle.ason_base.specs.{declared.ids.NodeId.NodeId, declared.commands.Disturb.Disturb, declared.commands.DisturbKind.DisturbKind, declared.commands.DisturbKind.TheVariants.{Lose, Repeat, Hold}}
use Rattle.world_merge.specs.Deeds.{Handled, Ticked, Took}
use Rattle.round_rules.specs.{Doings.{Did, Doing, Freed, Got}, Functions.{AreHeldAs, Popped, all_freed, all_handled, all_taken, clock_of, with_delivered, with_freed, got, with_handled, with_taken, taken_as, tick_if, turn_after}, Held.{HeldFrame, due_in}, RecordLaws.FunctionsAreTurns, Lines.says, Takings.{AreTakings, IsTaking, Taking, all_doings, doings_of}, Turns.{AreDelivered, AreHandled, IsTick, items_after}}

-- The parts

pub record Ticks (tick : Bool) (ds : List Doing) : Type 0 where
  pub more : List Doing
  pub all : tick_if tick ds ≡ ds ++ more
  pub is : IsTick tick more

pub ticks : (tick : Bool) (ds : List Doing) → Ticks tick ds
ticks true ds = record { more = Did (Ticked (clock_of ds + 1)) ∷ []; all = refl; is = (clock_of ds + 1, refl) }
ticks false ds = record { more = []; all = sym (append-nil ds); is = refl }

pub record Dues (hs : List HeldFrame) (ds : List Doing) (ps : List Popped) : Type 0 where
  pub more : List Doing
  pub all : all_freed ds ps ≡ ds ++ more
  pub are : AreDelivered hs more

pub dues : (hs : List HeldFrame) (ds : List Doing) (ps : List Popped) → AreHeldAs hs ps → Dues hs ds ps
dues [] ds [] e = record { more = []; all = sym (append-nil ds); are = refl }
dues [] ds (p ∷ ps) e = absurd e
dues (h ∷ hs) ds [] e = absurd e
dues (h ∷ hs) ds (p ∷ ps) e =
    let s : ℕ = max (clock_of (ds ++ Freed ∷ [])) p.stamp + 1 in
    let rest = dues hs (with_freed ds p) ps e.1 in
    record {
      more = Freed ∷ Did (Took s p.from p.number p.content) ∷ rest.more;
      all =
          rest.all ∙ append_assoc (ds ++ Freed ∷ []) (Did (Took s p.from p.number p.content) ∷ []) rest.more
          ∙ append_assoc ds (Freed ∷ []) (Did (Took s p.from p.number p.content) ∷ rest.more);
      are = (
        s,
        p.content,
        rest.more,
        λ i. Freed ∷ Did (Took s (sym e.0.0 i) (sym e.0.1 i) p.content) ∷ rest.more,
        rest.are,
      );
    }

pub record Items (k : ℕ) (ds : List Doing) : Type 0 where
  pub more : List Doing
  pub all : all_handled k ds ≡ ds ++ more
  pub are : AreHandled more
  pub count : length more ≡ k

pub items : (k : ℕ) (ds : List Doing) → Items k ds
items zero ds = record { more = []; all = sym (append-nil ds); are = tt; count = refl }
items (suc k) ds =
    let rest = items k (with_handled ds) in
    record {
      more = Did (Handled (clock_of ds + 1)) ∷ rest.more;
      all = rest.all ∙ append_assoc ds (Did (Handled (clock_of ds + 1)) ∷ []) rest.more;
      are = ((clock_of ds + 1, refl), rest.are);
      count = ap suc rest.count;
    }

-- Taking

record One (lines : List Disturb) (n : NodeId) (ds : List Doing) (p : Popped) (o : Option DisturbKind) : Type 0 where
  pub taking : Taking
  pub all : taken_as o ds p ≡ ds ++ doings_of taking
  pub is : says lines p.from n p.number ≡ o → IsTaking lines n taking

one : (lines : List Disturb) (n : NodeId) (ds : List Doing) (p : Popped) (o : Option DisturbKind) → One lines n ds p o
one lines n ds p None =
    let s : ℕ = max (clock_of (got ds p None)) p.stamp + 1 in
    record {
      taking = record { from = p.from; number = p.number; says = None; stamps = s ∷ []; content = p.content };
      all = append_assoc ds (Got p.from p.number None ∷ []) (Did (Took s p.from p.number p.content) ∷ []);
      is = λ e. record { says = sym e; deliveries = (s, refl) };
    }
one lines n ds p (Some Repeat) =
    let s : ℕ = max (clock_of (got ds p (Some Repeat))) p.stamp + 1 in
    let r : ℕ = max (clock_of (with_delivered (got ds p (Some Repeat)) p)) p.stamp + 1 in
    let once : Doing = Did (Took s p.from p.number p.content) in
    let again : Doing = Did (Took r p.from p.number p.content) in
    record {
      taking = record {
        from = p.from;
        number = p.number;
        says = Some Repeat;
        stamps = s ∷ r ∷ [];
        content = p.content;
      };
      all =
          append_assoc (got ds p (Some Repeat)) (once ∷ []) (again ∷ [])
          ∙ append_assoc ds (Got p.from p.number (Some Repeat) ∷ []) (once ∷ again ∷ []);
      is = λ e. record { says = sym e; deliveries = (s, r, refl) };
    }
one lines n ds p (Some Lose) = record {
  taking = record { from = p.from; number = p.number; says = Some Lose; stamps = []; content = p.content };
  all = refl;
  is = λ e. record { says = sym e; deliveries = refl };
}
one lines n ds p (Some Hold) = record {
  taking = record { from = p.from; number = p.number; says = Some Hold; stamps = []; content = p.content };
  all = refl;
  is = λ e. record { says = sym e; deliveries = refl };
}

pub record Takes (lines : List Disturb) (n : NodeId) (ds : List Doing) (ps : List Popped) : Type 0 where
  pub takings : List Taking
  pub all : all_taken lines n ds ps ≡ ds ++ all_doings takings
  pub are : AreTakings lines n takings

pub takes : (lines : List Disturb) (n : NodeId) (ds : List Doing) (ps : List Popped) → Takes lines n ds ps
takes lines n ds [] = record { takings = []; all = sym (append-nil ds); are = tt }
takes lines n ds (p ∷ ps) =
    let first = one lines n ds p (says lines p.from n p.number) in
    let rest = takes lines n (with_taken lines n ds p) ps in
    record {
      takings = first.taking ∷ rest.takings;
      all =
          rest.all ∙ ap (λ xs. xs ++ all_doings rest.takings) first.all
          ∙ append_assoc ds (doings_of first.taking) (all_doings rest.takings);
      are = (first.is refl, rest.are);
    }

pub functions-are-turns : FunctionsAreTurns
functions-are-turns t lines n tick before due pops are = record {
  added = added;
  all = whole;
  turn = record {
    ticks = a.more;
    dues = b.more;
    items = c.more;
    takings = d.takings;
    all = refl;
    is_tick = a.is;
    are_due = subst (λ ds. AreDelivered (due_in ds) b.more) a.all b.are;
    handled = c.are;
    count = c.count ∙ ap (items_after t n) (here_is ∙ append_assoc before a.more b.more);
    are_takings = d.are;
  };
}
  where
    a : Ticks tick before
    a = ticks tick before

    b : Dues (due_in (tick_if tick before)) (tick_if tick before) due
    b = dues (due_in (tick_if tick before)) (tick_if tick before) due are

    here : List Doing
    here = all_freed (tick_if tick before) due

    c : Items (items_after t n here) here
    c = items (items_after t n here) here

    d : Takes lines n (all_handled (items_after t n here) here) pops
    d = takes lines n (all_handled (items_after t n here) here) pops

    added : List Doing
    added = a.more ++ (b.more ++ (c.more ++ all_doings d.takings))

    here_is : here ≡ (before ++ a.more) ++ b.more
    here_is = b.all ∙ ap (λ xs. xs ++ b.more) a.all

    whole : turn_after t lines n tick before due pops ≡ before ++ added
    whole =
        d.all ∙ ap (λ xs. xs ++ all_doings d.takings) (c.all ∙ ap (λ xs. xs ++ c.more) here_is)
        ∙ append_assoc ((before ++ a.more) ++ b.more) c.more (all_doings d.takings)
        ∙ append_assoc (before ++ a.more) b.more (c.more ++ all_doings d.takings)
        ∙ append_assoc before a.more (b.more ++ (c.more ++ all_doings d.takings))

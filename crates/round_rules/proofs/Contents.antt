-- A turn is the same of frames that bear what was sent.
use Rattle.std.proofs.Common.{◌≡◌, ◌+◌, ℕ, zero, suc, Bool, true, false, cond, nat_lt, List, [], ◌∷◌, ◌++◌, refl, sym, ap, ◌∙◌, subst, append-nil, append_assoc, fold}
use Rattle.std.specs.{Prelude.{◌&&◌, ◌^◌, max, Option, Some, None}, List.{AllByRecursion, AllZip}}
use Rattle.ason_base.specs.{declared.limits.TheConstants.MOST_EVENTS, Network.Network, declared.commands.Disturb.Disturb, declared.commands.DisturbKind.DisturbKind, declared.commands.DisturbKind.TheVariants.{Hold, Lose, Repeat}, declared.ids.NodeId.NodeId}
use Rattle.ason_base.proofs.Members.{all-right, all-left}
use Rattle.flood.specs.declared.frames.Content.{Content}
use Rattle.world_merge.specs.Deeds.{Deed, Handled, Heard, Posted, Ticked, Took}
use Rattle.round_rules.specs.{Doings.{DeskItem, Did, Doing, DueFrame, Freed, Got, Left, RingFrame, Waiting, deeds_in}, Functions.{Popped, clock_of, with_delivered, with_freed, got, with_handled}, Limits.{Progress, delivery_part, desk_part, due_part, due_parts, going, halted_by, item_part, item_parts, log_line_count, pop_part, pop_parts, stamp_for, taking_part, tick_part, turn_to, unless_halted}, Lines.says, Turns.items_after}
use Rattle.round_rules.proofs.{Cutting.DoingsGoOn, Desks.deeds-more}

-- Lines that say the same make the same turn

told_pops : (one two : List Disturb) (n : NodeId) (p : Progress) (ps : List Popped) →
    ((u : NodeId) (k : ℕ) → says one u n k ≡ says two u n k) → pop_parts one n p ps ≡ pop_parts two n p ps
told_pops one two n p [] same = refl
told_pops one two n p (x ∷ ps) same =
    told_pops one two n (unless_halted (λ ds. pop_part (says one x.from n x.number) ds x) p) ps same
    ∙ ap (λ o. pop_parts two n (unless_halted (λ ds. pop_part o ds x) p) ps) (same x.from x.number)

-- The turn is the same by lines that say the same.
pub told-to : (t : Network) (one two : List Disturb) (n : NodeId) (tick : Bool) (ds : List Doing)
    (due pops : List Popped) → ((u : NodeId) (k : ℕ) → says one u n k ≡ says two u n k) →
    turn_to t one n tick ds due pops ≡ turn_to t two n tick ds due pops
told-to t one two n tick ds due pops same =
    told_pops one two n (unless_halted (desk_part t n) (due_parts (tick_part tick ds) due)) pops same

-- What was done stays

on_none : (ds : List Doing) → DoingsGoOn ds ds
on_none ds = record { more = []; all = sym (append-nil ds) }

on_twice : (a b c : List Doing) → DoingsGoOn a b → DoingsGoOn b c → DoingsGoOn a c
on_twice a b c f g = record {
  more = f.more ++ g.more;
  all = g.all ∙ ap (λ ks. ks ++ g.more) f.all ∙ append_assoc a f.more g.more;
}

able_on : (b : Bool) (w : Waiting) (next ds : List Doing) → DoingsGoOn ds next →
    DoingsGoOn ds (cond b (going next) (halted_by w ds)).doings
able_on true w next ds f = f
able_on false w next ds f = record { more = Left w ∷ []; all = refl }

unless_on : (next : List Doing → Progress) (p : Progress) → ((ds : List Doing) → DoingsGoOn ds (next ds).doings) →
    DoingsGoOn p.doings (unless_halted next p).doings
unless_on next p f = go p.halted
  where
    go : (b : Bool) → DoingsGoOn p.doings (cond b p (next p.doings)).doings
    go true = on_none p.doings
    go false = f p.doings

items_on : (k : ℕ) (p : Progress) → DoingsGoOn p.doings (item_parts k p).doings
items_on zero p = on_none p.doings
items_on (suc k) p =
    on_twice p.doings (unless_halted item_part p).doings (item_parts k (unless_halted item_part p)).doings
    (unless_on item_part p (λ ds. able_on _ DeskItem (with_handled ds) ds (record { more = _; all = refl })))
    (items_on k (unless_halted item_part p))

due_on : (x : Popped) (ds : List Doing) → DoingsGoOn ds (due_part ds x).doings
due_on x ds =
    able_on _ (DueFrame x.from x.number) (with_freed ds x) ds
    (record { more = _; all = append_assoc ds (Freed ∷ []) _ })

pop_on : (o : Option DisturbKind) (x : Popped) (ds : List Doing) → DoingsGoOn ds (pop_part o ds x).doings
pop_on None x ds =
    able_on _ (RingFrame x.from x.number) (with_delivered (got ds x None) x) ds
    (record { more = _; all = append_assoc ds (Got x.from x.number None ∷ []) _ })
pop_on (Some Repeat) x ds =
    on_twice ds (taking_part (Some Repeat) x ds).doings (pop_part (Some Repeat) ds x).doings
    (able_on _ (RingFrame x.from x.number) (with_delivered (got ds x (Some Repeat)) x) ds
    (record { more = _; all = append_assoc ds (Got x.from x.number (Some Repeat) ∷ []) _ }))
    (unless_on (delivery_part x) (taking_part (Some Repeat) x ds)
    (λ ks. able_on _ (RingFrame x.from x.number) (with_delivered ks x) ks (record { more = _; all = refl })))
pop_on (Some Lose) x ds = record { more = _; all = refl }
pop_on (Some Hold) x ds = record { more = _; all = refl }

-- two frames that differ in what they bear at most
pub record IsSameFrame (p e : Popped) : Type 0 where
  pub from : p.from ≡ e.from
  pub number : p.number ≡ e.number
  pub stamp : p.stamp ≡ e.stamp

-- the frame, as if it bore this
abbrev bearing : Popped → Content → Popped
bearing e x = record e { content = x }

-- What is so of a deed's frame, and of a frame: it bears what was sent.
module _ (sent : NodeId → ℕ → Option Content) where
  abbrev pub BearsSent : Deed → Type 0
  BearsSent (Took s u k x) = sent u k ≡ Some x
  BearsSent (Ticked s) = Unit {0}
  BearsSent (Handled s) = Unit {0}
  BearsSent (Heard s u bytes) = Unit {0}
  BearsSent (Posted s c) = Unit {0}

  abbrev pub IsSent : Popped → Type 0
  IsSent e = sent e.from e.number ≡ Some e.content

  abbrev AllBear : List Doing → Type 0
  AllBear ds = AllByRecursion BearsSent (deeds_in ds)

  before : (ds more : List Doing) → AllBear (ds ++ more) → AllBear ds
  before ds more all =
      all-left BearsSent (deeds_in ds) (deeds_in more) (subst (AllByRecursion BearsSent) (deeds-more ds more) all)

  after : (ds more : List Doing) → AllBear (ds ++ more) → AllBear more
  after ds more all =
      all-right BearsSent (deeds_in ds) (deeds_in more) (subst (AllByRecursion BearsSent) (deeds-more ds more) all)

  -- it was delivered last, and was sent
  bears : (ds : List Doing) (e : Popped) (x : Content) → IsSent e → AllBear (with_delivered ds (bearing e x)) →
      x ≡ e.content
  bears ds e x is all =
      let here : sent e.from e.number ≡ Some x = (after ds (Did (Took (max (clock_of ds) e.stamp + 1) e.from e.number
      x) ∷ []) all).0 in
      cc (sym here ∙ is)

  due_same : (e : Popped) (x : Content) (ds : List Doing) → IsSent e → AllBear (due_part ds (bearing e x)).doings →
      due_part ds (bearing e x) ≡ due_part ds e
  due_same e x ds is = go (nat_lt (log_line_count ds) MOST_EVENTS && nat_lt (stamp_for e ds) (2 ^ 64))
    where
      w : Waiting
      w = DueFrame e.from e.number

      go : (b : Bool) → AllBear (cond b (going (with_freed ds (bearing e x))) (halted_by w ds)).doings →
          cond b (going (with_freed ds (bearing e x))) (halted_by w ds)
          ≡ cond b (going (with_freed ds e)) (halted_by w ds)
      go true all = ap (λ y. going (with_freed ds (bearing e y))) (bears (ds ++ Freed ∷ []) e x is all)
      go false all = refl

  pop_same : (o : Option DisturbKind) (e : Popped) (x : Content) (ds : List Doing) → IsSent e →
      AllBear (pop_part o ds (bearing e x)).doings → pop_part o ds (bearing e x) ≡ pop_part o ds e
  pop_same None e x ds is all = go (nat_lt (log_line_count ds) MOST_EVENTS && nat_lt (stamp_for e ds) (2 ^ 64)) all
    where
      w : Waiting
      w = RingFrame e.from e.number

      here : List Doing
      here = got ds e None

      go : (b : Bool) → AllBear (cond b (going (with_delivered here (bearing e x))) (halted_by w ds)).doings →
          cond b (going (with_delivered here (bearing e x))) (halted_by w ds) ≡
          cond b (going (with_delivered here e)) (halted_by w ds)
      go true all = ap (λ y. going (with_delivered here (bearing e y))) (bears here e x is all)
      go false all = refl
  pop_same (Some Repeat) e x ds is all =
      go (nat_lt (log_line_count ds) MOST_EVENTS && nat_lt (stamp_for e ds) (2 ^ 64)) all
    where
      w : Waiting
      w = RingFrame e.from e.number

      here : List Doing
      here = got ds e (Some Repeat)

      go : (b : Bool) →
          AllBear (unless_halted (delivery_part (bearing e x)) (cond b (going (with_delivered here (bearing e x)))
          (halted_by w ds))).doings →
          unless_halted (delivery_part (bearing e x)) (cond b (going (with_delivered here (bearing e x)))
          (halted_by w ds)) ≡
          unless_halted (delivery_part e) (cond b (going (with_delivered here e)) (halted_by w ds))
      go true all =
          let on : DoingsGoOn (with_delivered here (bearing e x)) (delivery_part (bearing e x) (with_delivered here
          (bearing e x))).doings =
          able_on _ w (with_delivered (with_delivered here (bearing e x)) (bearing e x))
          (with_delivered here (bearing e x))
          (record { more = _; all = refl }) in
          ap (λ y. delivery_part (bearing e y) (with_delivered here (bearing e y)))
          (bears here e x is (before (with_delivered here (bearing e x)) on.more (subst AllBear on.all all)))
      go false all = refl
  pop_same (Some Lose) e x ds is all = refl
  pop_same (Some Hold) e x ds is all = refl

  -- Frames one after the other

  module _ (f : Popped → List Doing → Progress) (on : (x : Popped) (ds : List Doing) → DoingsGoOn ds (f x ds).doings)
      (one : (e : Popped) (x : Content) (ds : List Doing) → IsSent e → AllBear (f (bearing e x) ds).doings →
      f (bearing e x) ds ≡ f e ds) where
    abbrev parts : Progress → List Popped → Progress
    parts p ps = fold (λ (q : Progress) (x : Popped). unless_halted (f x) q) p ps

    parts_on : (p : Progress) (ps : List Popped) → DoingsGoOn p.doings (parts p ps).doings
    parts_on p [] = on_none p.doings
    parts_on p (x ∷ ps) =
        on_twice p.doings (unless_halted (f x) p).doings (parts p (x ∷ ps)).doings (unless_on (f x) p (on x))
        (parts_on (unless_halted (f x) p) ps)

    step_same : (p : Progress) (x e : Popped) → IsSameFrame x e → IsSent e → AllBear (unless_halted (f x) p).doings →
        unless_halted (f x) p ≡ unless_halted (f e) p
    step_same p x e same is all = ap (λ y. unless_halted (f y) p) other ∙ go p.halted
        (subst (λ y. AllBear (unless_halted (f y) p).doings) other all)
      where
        other : x ≡ bearing e x.content
        other = λ i. record {
          from = same.from i;
          number = same.number i;
          stamp = same.stamp i;
          content = x.content;
        }

        go : (b : Bool) → AllBear (cond b p (f (bearing e x.content) p.doings)).doings →
            cond b p (f (bearing e x.content) p.doings) ≡ cond b p (f e p.doings)
        go true bear = refl
        go false bear = one e x.content p.doings is bear

    parts_same : (p : Progress) (ps es : List Popped) → AllZip IsSameFrame ps es → AllByRecursion IsSent es →
        AllBear (parts p ps).doings → parts p ps ≡ parts p es
    parts_same p [] [] same are all = refl
    parts_same p [] (e ∷ es) same are all = absurd same
    parts_same p (x ∷ ps) [] same are all = absurd same
    parts_same p (x ∷ ps) (e ∷ es) same are all =
        let rest : DoingsGoOn (unless_halted (f x) p).doings (parts p (x ∷ ps)).doings =
        parts_on (unless_halted (f x) p) ps in
        parts_same (unless_halted (f x) p) ps es same.1 are.1 all
        ∙ ap (λ q. parts q es) (step_same p x e same.0 are.0
        (before (unless_halted (f x) p).doings rest.more (subst AllBear rest.all all)))

  -- The turn of these frames is that of the frames that bear what was sent.
  pub turn-same : (t : Network) (lines : List Disturb) (n : NodeId) (tick : Bool) (ds : List Doing)
      (due pops dues exact : List Popped) → AllZip IsSameFrame due dues → AllByRecursion IsSent dues →
      AllZip IsSameFrame pops exact → AllByRecursion IsSent exact →
      AllBear (turn_to t lines n tick ds due pops).doings →
      turn_to t lines n tick ds due pops ≡ turn_to t lines n tick ds dues exact
  turn-same t lines n tick ds due pops dues exact same_due are_due same_pops are_pops all =
      parts_same pop_f pop_goes pop_one ready pops exact same_pops are_pops all
      ∙ ap (λ q. pop_parts lines n (unless_halted (desk_part t n) q) exact)
      (parts_same due_f due_on due_same (tick_part tick ds) due dues same_due are_due due_bear)
    where
      pop_f : Popped → List Doing → Progress
      pop_f x ks = pop_part (says lines x.from n x.number) ks x

      pop_goes : (x : Popped) (ks : List Doing) → DoingsGoOn ks (pop_part (says lines x.from n x.number) ks x).doings
      pop_goes x ks = pop_on (says lines x.from n x.number) x ks

      pop_one : (e : Popped) (x : Content) (ks : List Doing) → IsSent e →
          AllBear (pop_part (says lines e.from n e.number) ks (bearing e x)).doings →
          pop_part (says lines e.from n e.number) ks (bearing e x) ≡ pop_part (says lines e.from n e.number) ks e
      pop_one e x ks = pop_same (says lines e.from n e.number) e x ks

      due_f : Popped → List Doing → Progress
      due_f x ks = due_part ks x

      here : Progress
      here = due_parts (tick_part tick ds) due

      ready : Progress
      ready = unless_halted (desk_part t n) here

      popped : DoingsGoOn ready.doings (turn_to t lines n tick ds due pops).doings
      popped = parts_on pop_f pop_goes pop_one ready pops

      desk : DoingsGoOn here.doings ready.doings
      desk = unless_on (desk_part t n) here (λ ks. items_on (items_after t n ks) (going ks))

      due_bear : AllBear here.doings
      due_bear =
          before here.doings desk.more (subst AllBear desk.all
          (before ready.doings popped.more (subst AllBear popped.all all)))

-- A turn that doesn't halt is the whole turn.
use Rattle.std.proofs.{Common.{◌≡◌, ℕ, zero, suc, Bool, true, false, cond, List, [], ◌∷◌, refl, ap, ◌∙◌}, lemmas.List.Sums.fold-append}
use Rattle.std.specs.Prelude.{Option, Some, None}
use Rattle.ason_base.specs.{declared.ids.NodeId.NodeId, declared.commands.Disturb.Disturb, declared.commands.DisturbKind.DisturbKind, declared.commands.DisturbKind.TheVariants.{Lose, Repeat, Hold}}
use Rattle.round_rules.specs.{Doings.{DeskItem, Doing, DueFrame, RingFrame, TickAsked, Waiting}, Functions.{Popped, all_freed, all_handled, all_taken, with_delivered, with_freed, got, with_handled, with_taken, taken_as, tick_if, with_ticked}, Halts.{HaltsAreLast, TurnsEnd}, Limits.{Progress, delivery_part, desk_part, due_part, due_parts, going, item_part, item_parts, pop_part, pop_parts, taking_part, tick_part, halted_by, turn_to, unless_halted}, Lines.says, Turns.items_after}

-- where it doesn't halt, this was done
abbrev pub Does : Progress → List Doing → Type 0
Does p ds = p.halted ≡ false → p.doings ≡ ds

-- it didn't halt
pub is-going : (p : Progress) (ds : List Doing) → Does p ds → p.halted ≡ false → p ≡ going ds
is-going p ds is e = λ i. record { doings = (is e) i; halted = e i }

able_does : (b : Bool) (w : Waiting) (next : List Doing → List Doing) (ds : List Doing) →
    Does (cond b (going (next ds)) (halted_by w ds)) (next ds)
able_does true w next ds e = refl
able_does false w next ds e = absurd (cc (e))

next_does : (next : List Doing → Progress) (f : List Doing → List Doing) (p : Progress) (ds : List Doing) →
    Does p ds → ((ks : List Doing) → Does (next ks) (f ks)) → Does (unless_halted next p) (f ds)
next_does next f p ds is all = go p.halted refl
  where
    go : (b : Bool) → p.halted ≡ b → Does (cond b p (next p.doings)) (f ds)
    go true h e = absurd (cc (h, e))
    go false h e = all p.doings e ∙ ap f (is h)

-- The parts

tick_does : (tick : Bool) (ds : List Doing) → Does (tick_part tick ds) (tick_if tick ds)
tick_does true ds = able_does _ TickAsked with_ticked ds
tick_does false ds = λ e. refl

due_does : (ds : List Doing) (p : Popped) → Does (due_part ds p) (with_freed ds p)
due_does ds p = able_does _ (DueFrame p.from p.number) (λ ks. with_freed ks p) ds

pub dues-do : (p : Progress) (ds : List Doing) (due : List Popped) → Does p ds →
    Does (due_parts p due) (all_freed ds due)
dues-do p ds [] is = is
dues-do p ds (x ∷ due) is =
    dues-do (unless_halted (λ ks. due_part ks x) p) (with_freed ds x) due
    (next_does (λ ks. due_part ks x) (λ ks. with_freed ks x) p ds is (λ ks. due_does ks x))

pub items-do : (k : ℕ) (p : Progress) (ds : List Doing) → Does p ds → Does (item_parts k p) (all_handled k ds)
items-do zero p ds is = is
items-do (suc k) p ds is =
    items-do k (unless_halted item_part p) (with_handled ds)
    (next_does item_part with_handled p ds is (λ ks. able_does _ DeskItem with_handled ks))

pub pop-does : (o : Option DisturbKind) (ds : List Doing) (p : Popped) → Does (pop_part o ds p) (taken_as o ds p)
pop-does None ds p = able_does _ (RingFrame p.from p.number) (λ ks. with_delivered (got ks p None) p) ds
pop-does (Some Repeat) ds p =
    next_does (delivery_part p) (λ ks. with_delivered ks p) (taking_part (Some Repeat) p ds)
    (with_delivered (got ds p (Some Repeat)) p)
    (able_does _ (RingFrame p.from p.number) (λ ks. with_delivered (got ks p (Some Repeat)) p) ds)
    (λ ks. able_does _ (RingFrame p.from p.number) (λ js. with_delivered js p) ks)
pop-does (Some Lose) ds p = λ e. refl
pop-does (Some Hold) ds p = λ e. refl

pops_do : (lines : List Disturb) (n : NodeId) (p : Progress) (ds : List Doing) (pops : List Popped) → Does p ds →
    Does (pop_parts lines n p pops) (all_taken lines n ds pops)
pops_do lines n p ds [] is = is
pops_do lines n p ds (x ∷ pops) is =
    pops_do lines n (unless_halted (λ ks. pop_part (says lines x.from n x.number) ks x) p) (with_taken lines n ds x)
    pops
    (next_does (λ ks. pop_part (says lines x.from n x.number) ks x) (λ ks. with_taken lines n ks x) p ds is
    (λ ks. pop-does (says lines x.from n x.number) ks x))

pub turns-end : TurnsEnd
turns-end t lines n tick before due pops =
    pops_do lines n (unless_halted (desk_part t n) (due_parts (tick_part tick before) due))
    (all_handled (items_after t n here) here) pops
    (next_does (desk_part t n) (λ ks. all_handled (items_after t n ks) ks) (due_parts (tick_part tick before) due) here
    (dues-do (tick_part tick before) (tick_if tick before) due (tick_does tick before))
    (λ ks. items-do (items_after t n ks) (going ks) ks (λ e. refl)))
  where
    here : List Doing
    here = all_freed (tick_if tick before) due

-- After a halt

pub still : (next : List Doing → Progress) (p : Progress) → p.halted ≡ true → unless_halted next p ≡ p
still next p e = ap (λ b. cond b p (next p.doings)) e

pub still-popped : (lines : List Disturb) (n : NodeId) (p : Progress) (pops : List Popped) → p.halted ≡ true →
    pop_parts lines n p pops ≡ p
still-popped lines n p [] e = refl
still-popped lines n p (x ∷ pops) e =
    ap (λ q. pop_parts lines n q pops) (still (λ ks. pop_part (says lines x.from n x.number) ks x) p e)
    ∙ still-popped lines n p pops e

pub halts-are-last : HaltsAreLast
halts-are-last t lines n tick before due pops more e =
    fold-append (λ (q : Progress) (x : Popped). unless_halted (λ ds. pop_part (says lines x.from n x.number) ds x) q)
    (unless_halted (desk_part t n) (due_parts (tick_part tick before) due)) pops more
    ∙ still-popped lines n (turn_to t lines n tick before due pops) more e

-- After a turn no held frame is due until the node ticks again.
use Rattle.std.proofs.{Common.{◌≡◌, ◌≤◌, ◌+◌, ℕ, Bool, true, false, cond, nat_le, List, [], ◌∷◌, ◌++◌, drop, filter, map, refl, sym, ap, ◌∙◌, subst, arith, append-nil}, ByRecursion.All-append}
use Rattle.std.specs.{Prelude.{Option, Some, None}, List.AllByRecursion}
use Rattle.ason_base.specs.{declared.ids.NodeId.NodeId, declared.commands.DisturbKind.DisturbKind, declared.commands.DisturbKind.TheVariants.{Lose, Repeat, Hold}}
use Rattle.flood.specs.declared.frames.Content.{Content}
use Rattle.world_merge.specs.Deeds.{Deed, Handled, Heard, Posted, Ticked, Took}
use Rattle.round_rules.specs.{Doings.{Did, Doing, Freed, Got, Left, Lost}, Held.{HeldFrame, held_after, held_by_line, held_past, is_frame_due, ticked_once}, Takings.{Taking, all_doings}, Turns.{AreDelivered, AreHandled}}

-- Held frames stand in the order of their taking

-- a frame that was taken earlier saw as many ticks at least
abbrev pub Descends : List HeldFrame → Type 0
Descends [] = Unit {0}
Descends (h ∷ hs) = AllByRecursion (λ (k : HeldFrame). k.ticks ≤ h.ticks) hs × Descends hs

descends_drop : (hs : List HeldFrame) → Descends hs → Descends (drop 1 hs)
descends_drop [] d = tt
descends_drop (h ∷ hs) d = d.1

descends_ticked : (hs : List HeldFrame) → Descends hs → Descends (map ticked_once hs)
descends_ticked [] d = tt
descends_ticked (h ∷ hs) d = (go hs d.0, descends_ticked hs d.1)
  where
    go : (ks : List HeldFrame) → AllByRecursion (λ (k : HeldFrame). k.ticks ≤ h.ticks) ks →
        AllByRecursion (λ (k : HeldFrame). k.ticks ≤ h.ticks + 1) (map ticked_once ks)
    go [] all = tt
    go (k ∷ ks) all = (omega (arith, all.0), go ks all.1)

descends_more : (hs : List HeldFrame) (u : NodeId) (k : ℕ) → Descends hs →
    Descends (hs ++ record { from = u; number = k; ticks = 0 } ∷ [])
descends_more [] u k d = (tt, tt)
descends_more (h ∷ hs) u k d = (
  All-append (λ (x : HeldFrame). x.ticks ≤ h.ticks) hs (record { from = u; number = k; ticks = 0 } ∷ []) d.0
      (omega arith, tt),
  descends_more hs u k d.1,
)

descends_got : (says : Option DisturbKind) (hs : List HeldFrame) (u : NodeId) (k : ℕ) → Descends hs →
    Descends (hs ++ held_by_line u k says)
descends_got None hs u k d = subst Descends (sym (append-nil hs)) d
descends_got (Some Lose) hs u k d = subst Descends (sym (append-nil hs)) d
descends_got (Some Repeat) hs u k d = subst Descends (sym (append-nil hs)) d
descends_got (Some Hold) hs u k d = descends_more hs u k d

descends_deed : (e : Deed) (hs : List HeldFrame) → Descends hs → Descends (held_past hs e)
descends_deed (Ticked s) hs d = descends_ticked hs d
descends_deed (Handled s) hs d = d
descends_deed (Took s u k x) hs d = d
descends_deed (Heard s u bytes) hs d = d
descends_deed (Posted s c) hs d = d

-- whatever is done, the frames that were taken earlier saw as many ticks at least
pub descends-after : (ds : List Doing) (hs : List HeldFrame) → Descends hs → Descends (held_after hs ds)
descends-after [] hs d = d
descends-after (Did e ∷ ds) hs d = descends-after ds (held_past hs e) (descends_deed e hs d)
descends-after (Got u k says ∷ ds) hs d = descends-after ds (hs ++ held_by_line u k says) (descends_got says hs u k d)
descends-after (Freed ∷ ds) hs d = descends-after ds (drop 1 hs) (descends_drop hs d)
descends-after (Lost u k ∷ ds) hs d = descends-after ds hs d
descends-after (Left i ∷ ds) hs d = descends-after ds hs d

-- None is due

abbrev pub NoneDue : List HeldFrame → Type 0
NoneDue hs = AllByRecursion (λ (h : HeldFrame). is_frame_due h ≡ false) hs

pub none-due : (hs : List HeldFrame) → NoneDue hs → filter is_frame_due hs ≡ []
none-due [] all = refl
none-due (h ∷ hs) all =
    ap (λ b. cond b (h ∷ filter is_frame_due hs) (filter is_frame_due hs)) all.0 ∙ none-due hs all.1

later_none : (h : HeldFrame) (hs : List HeldFrame) → is_frame_due h ≡ false →
    AllByRecursion (λ (k : HeldFrame). k.ticks ≤ h.ticks) hs → NoneDue hs
later_none h [] e all = tt
later_none h (k ∷ hs) e all = (less h.ticks k.ticks e all.0, later_none h hs e all.1)
  where
    less : (a b : ℕ) → nat_le 2 a ≡ false → b ≤ a → nat_le 2 b ≡ false
    less a b e le = grind (arith, e, le)

-- once the due ones are delivered, none is due
pub due-delivered : (hs : List HeldFrame) (ds : List Doing) → Descends hs → AreDelivered (filter is_frame_due hs) ds →
    NoneDue (held_after hs ds)
due-delivered [] ds d all = subst (λ xs. NoneDue (held_after [] xs)) (sym all) tt
due-delivered (h ∷ hs) ds d all = go (is_frame_due h) refl all (λ es. due-delivered hs es d.1)
  where
    go : (b : Bool) → is_frame_due h ≡ b →
        AreDelivered (cond b (h ∷ filter is_frame_due hs) (filter is_frame_due hs)) ds →
        ((es : List Doing) → AreDelivered (filter is_frame_due hs) es → NoneDue (held_after hs es)) →
        NoneDue (held_after (h ∷ hs) ds)
    go true e all rest = subst (λ xs. NoneDue (held_after (h ∷ hs) xs)) (sym all.3) (rest all.2 all.4)
    go false e all rest =
        let none : filter is_frame_due hs ≡ [] = none-due hs (later_none h hs e d.0) in
        let nothing : ds ≡ [] = subst (λ ks. AreDelivered ks ds) none all in
        subst (λ xs. NoneDue (held_after (h ∷ hs) xs)) (sym nothing) (e, later_none h hs e d.0)

-- items leave the held frames
pub handled-none : (ds : List Doing) (hs : List HeldFrame) → AreHandled ds → held_after hs ds ≡ hs
handled-none [] hs all = refl
handled-none (d ∷ ds) hs all = ap (λ x. held_after hs (x ∷ ds)) all.0.1 ∙ handled-none ds hs all.1

none_got : (says : Option DisturbKind) (hs : List HeldFrame) (u : NodeId) (k : ℕ) → NoneDue hs →
    NoneDue (hs ++ held_by_line u k says)
none_got None hs u k d = subst NoneDue (sym (append-nil hs)) d
none_got (Some Lose) hs u k d = subst NoneDue (sym (append-nil hs)) d
none_got (Some Repeat) hs u k d = subst NoneDue (sym (append-nil hs)) d
none_got (Some Hold) hs u k d =
    All-append (λ (h : HeldFrame). is_frame_due h ≡ false) hs (record { from = u; number = k; ticks = 0 } ∷ []) d
    (refl, tt)

none_deliveries : (u : NodeId) (k : ℕ) (x : Content) (stamps : List ℕ) (rest : List Doing) (hs : List HeldFrame) →
    NoneDue hs → ((ks : List HeldFrame) → NoneDue ks → NoneDue (held_after ks rest)) →
    NoneDue (held_after hs (map (λ s. Did (Took s u k x)) stamps ++ rest))
none_deliveries u k x [] rest hs d go = go hs d
none_deliveries u k x (s ∷ stamps) rest hs d go = none_deliveries u k x stamps rest hs d go

-- what is taken makes none due, though some of it may be held
pub takings-none : (gs : List Taking) (hs : List HeldFrame) → NoneDue hs → NoneDue (held_after hs (all_doings gs))
takings-none [] hs d = d
takings-none (g ∷ gs) hs d =
    none_deliveries g.from g.number g.content g.stamps (all_doings gs) (hs ++ held_by_line g.from g.number g.says)
    (none_got g.says hs g.from g.number d) (λ ks e. takings-none gs ks e)

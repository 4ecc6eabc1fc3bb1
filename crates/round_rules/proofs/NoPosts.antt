-- In a turn nothing is posted, and no input is left unless it halts.
use Rattle.std.proofs.{Common.{◌≡◌, ℕ, Bool, true, false, List, [], ◌∷◌, ◌++◌, filter, map, refl, sym, ap, ◌∙◌, subst, append-nil, arith, inl, inr}, lemmas.List.Elements.filter-append}
use Rattle.ason_base.specs.{Network.Network, declared.commands.Disturb.Disturb, declared.ids.NodeId.NodeId}
use Rattle.flood.specs.declared.frames.Content.{Content}
use Rattle.world_merge.specs.{Deeds.Took, Logs.is_posted}
use Rattle.round_rules.specs.{Doings.{Did, Doing, Left, Waiting, deeds_in}, Halts.{IsCutTurnOf, MayLack, MayTick}, Held.{HeldFrame, due_in}, Takings.{Taking, all_doings}, Turns.{AreDelivered, AreHandled, IsTick, IsTurnOf}, Turned.{HeldLost, IsLast, NoneLost, PopLost, RepeatLost}}
use Rattle.round_rules.proofs.{Desks.deeds-more, NoLefts.{LeavesNone, none-append}}

abbrev pub HasNoPost : List Doing → Type 0
HasNoPost ds = filter is_posted (deeds_in ds) ≡ []

-- What two lists of doings post is what each posts.
pub posts-more : (xs ys : List Doing) →
    filter is_posted (deeds_in (xs ++ ys)) ≡ filter is_posted (deeds_in xs) ++ filter is_posted (deeds_in ys)
posts-more xs ys = ap (filter is_posted) (deeds-more xs ys) ∙ filter-append is_posted (deeds_in xs) (deeds_in ys)

-- where neither posts anything, both don't
pub posts-append : (xs ys : List Doing) → HasNoPost xs → HasNoPost ys → HasNoPost (xs ++ ys)
posts-append xs ys f g = posts-more xs ys ∙ ap (λ ds. ds ++ filter is_posted (deeds_in ys)) f ∙ g

-- an input that is left is no post
pub left-posts : (ds : List Doing) (w : Waiting) → HasNoPost ds → HasNoPost (ds ++ Left w ∷ [])
left-posts ds w f = posts-append ds (Left w ∷ []) f refl

-- these post nothing and leave no input
abbrev pub AddsNeither : List Doing → Type 0
AddsNeither ds = HasNoPost ds × LeavesNone ds

-- where neither does, both don't
pub neither-append : (xs ys : List Doing) → AddsNeither xs → AddsNeither ys → AddsNeither (xs ++ ys)
neither-append xs ys f g = (posts-append xs ys f.0 g.0, none-append xs ys f.1 g.1)

tick_neither : (tick : Bool) (ds : List Doing) → IsTick tick ds → AddsNeither ds
tick_neither true ds is = subst AddsNeither (sym is.1) (refl, refl)
tick_neither false ds is = subst AddsNeither (sym is) (refl, refl)

due_neither : (hs : List HeldFrame) (ds : List Doing) → AreDelivered hs ds → AddsNeither ds
due_neither [] ds are = subst AddsNeither (sym are) (refl, refl)
due_neither (h ∷ hs) ds are = subst AddsNeither (sym are.3) (due_neither hs are.2 are.4)

item_neither : (ds : List Doing) → AreHandled ds → AddsNeither ds
item_neither [] are = (refl, refl)
item_neither (d ∷ ds) are = subst (λ e. AddsNeither (e ∷ ds)) (sym are.0.1) (item_neither ds are.1)

delivery_neither : (u : NodeId) (k : ℕ) (x : Content) (stamps : List ℕ) →
    AddsNeither (map (λ s. Did (Took s u k x)) stamps)
delivery_neither u k x [] = (refl, refl)
delivery_neither u k x (s ∷ stamps) = delivery_neither u k x stamps

taking_neither : (gs : List Taking) → AddsNeither (all_doings gs)
taking_neither [] = (refl, refl)
taking_neither (g ∷ gs) =
    neither-append (map (λ s. Did (Took s g.from g.number g.content)) g.stamps) (all_doings gs)
    (delivery_neither g.from g.number g.content g.stamps) (taking_neither gs)

last_neither : (lines : List Disturb) (n : NodeId) (ds : List Doing) → MayLack lines n ds → AddsNeither ds
last_neither lines n ds (inl none) = subst AddsNeither (sym none) (refl, refl)
last_neither lines n ds (inr once) = subst AddsNeither (sym once.all) (refl, refl)

may_neither : (tick : Bool) (ds : List Doing) → MayTick tick ds → AddsNeither ds
may_neither tick ds (inl none) = subst AddsNeither (sym none) (refl, refl)
may_neither tick ds (inr is) = tick_neither tick ds is

-- A cut turn posts nothing, and before it is cut it leaves no input.
pub cut-adds : (t : Network) (lines : List Disturb) (n : NodeId) (tick : Bool) (before added : List Doing) →
    IsCutTurnOf t lines n tick before added → AddsNeither added
cut-adds t lines n tick before added f =
    subst AddsNeither (sym f.all) (neither-append f.ticks (f.dues ++ (f.items ++ (all_doings f.takings ++ f.last)))
    (may_neither tick f.ticks f.is_tick)
    (neither-append f.dues (f.items ++ (all_doings f.takings ++ f.last)) (due_neither f.freed f.dues f.are_due)
    (neither-append f.items (all_doings f.takings ++ f.last) (item_neither f.items f.handled)
    (neither-append (all_doings f.takings) f.last (taking_neither f.takings) (last_neither lines n f.last f.lacks)))))

-- Nor does what is lost for want of memory.
pub lost-adds : (lines : List Disturb) (n : NodeId) (ds : List Doing) → IsLast lines n ds → AddsNeither ds
lost-adds lines n ds NoneLost = (refl, refl)
lost-adds lines n ds (PopLost u k) = (refl, refl)
lost-adds lines n ds (RepeatLost u k s x e) = (refl, refl)
lost-adds lines n ds (HeldLost u k) = (refl, refl)

-- a turn is a cut turn that wants nothing
abbrev pub whole-cut : (t : Network) (lines : List Disturb) (n : NodeId) (tick : Bool) (before added : List Doing) →
    IsTurnOf t lines n tick before added → IsCutTurnOf t lines n tick before added
whole-cut t lines n tick before added f = record {
  ticks = f.ticks;
  dues = f.dues;
  items = f.items;
  takings = f.takings;
  last = [];
  all = f.all ∙ ap (λ ds. f.ticks ++ (f.dues ++ (f.items ++ ds))) (sym (append-nil (all_doings f.takings)));
  is_tick = inr f.is_tick;
  freed = due_in (before ++ f.ticks);
  kept = [];
  due = sym (append-nil (due_in (before ++ f.ticks)));
  are_due = f.are_due;
  handled = f.handled;
  few = let count = f.count in omega (arith, count);
  are_takings = f.are_takings;
  lacks = inl refl;
}

-- Nor does a whole one.
pub turn-adds : (t : Network) (lines : List Disturb) (n : NodeId) (tick : Bool) (before added : List Doing) →
    IsTurnOf t lines n tick before added → AddsNeither added
turn-adds t lines n tick before added f =
    cut-adds t lines n tick before added (whole-cut t lines n tick before added f)

-- A turn that went so far and left an input is a cut turn.
use Rattle.std.proofs.{Common.{◌≡◌, ◌≤◌, ◌<◌, ◌+◌, ◌⊎◌, inl, inr, ℕ, zero, suc, Bool, List, [], ◌∷◌, ◌++◌, refl, sym, ap, ◌∙◌, subst, arith, append-nil, append_assoc}, lemmas.List.Elements.Contains-append_right}
use Rattle.std.specs.{Prelude.{◌^◌, max}, List.Contains}
use Rattle.ason_base.specs.{declared.ids.NodeId.NodeId, declared.commands.Disturb.Disturb, Network.Network}
use Rattle.ason_base.proofs.Members.{contains-head}
use Rattle.world_merge.specs.Deeds.{Took}
use Rattle.round_rules.specs.{Doings.{Did, Doing, Freed, Left, Waiting, DeskItem, DueFrame, RingFrame, TickAsked}, Functions.{AreHeldAs, Popped, all_freed, all_handled, all_taken, clock_of, with_freed, with_handled, tick_if, turn_after}, Halts.{HasHalted, AreDoingsAtLimit, MayLack, IsAtHand, IsCutTurnOf}, Held.{HeldFrame, due_in}, Limits.{next_stamp, stamp_for, turn_to}, Takings.{all_doings, IsDelivered}, Turns.items_after, Lines.says}
use Rattle.round_rules.proofs.{Halting.AreDoingsFull, Turning.{Dues, Items, Takes, Ticks, dues, items, takes, ticks}}

-- The limit

no_stamp : (c s : ℕ) → 2 ^ 64 ≤ max c s + 1 → (2 ^ 64 ≤ c + 1) ⊎ (2 ^ 64 ≤ s + 1)
no_stamp c s h = grind (arith, h)

-- of a frame
pub at_limit : (ds : List Doing) (ps : List Popped) (p : Popped) → Contains ps p → AreDoingsFull (stamp_for p ds) ds →
    AreDoingsAtLimit ds ps
at_limit ds ps p there (inl lines) = inl lines
at_limit ds ps p there (inr stamp) = elim (no_stamp (clock_of ds) p.stamp stamp) [
  | inl clock ↦ inr (inl clock)
  | inr late ↦ inr (inr (p, there, late))
]

-- of a tick, and of an item
pub at_clock : (ds : List Doing) (ps : List Popped) → AreDoingsFull (next_stamp ds) ds → AreDoingsAtLimit ds ps
at_clock ds ps (inl lines) = inl lines
at_clock ds ps (inr clock) = inr (inl clock)

pub there_between : (first rest : List Popped) (p : Popped) → Contains (first ++ p ∷ rest) p
there_between first rest p = Contains-append_right first (p ∷ rest) p (contains-head p rest)

-- What goes on

pub record DoingsGoOn (ds es : List Doing) : Type 0 where
  pub more : List Doing
  pub all : es ≡ ds ++ more

pub freed_on : (ds : List Doing) (ps : List Popped) → DoingsGoOn ds (all_freed ds ps)
freed_on ds [] = record { more = []; all = sym (append-nil ds) }
freed_on ds (p ∷ ps) =
    let r = freed_on (with_freed ds p) ps in
    let one : Doing = Did (Took (max (clock_of (ds ++ Freed ∷ [])) p.stamp + 1) p.from p.number p.content) in
    record {
      more = (Freed ∷ one ∷ []) ++ r.more;
      all =
          r.all ∙ ap (λ ks. ks ++ r.more) (append_assoc ds (Freed ∷ []) (one ∷ []))
          ∙ append_assoc ds (Freed ∷ one ∷ []) r.more;
    }

pub handled_twice : (a b : ℕ) (ds : List Doing) → all_handled (a + b) ds ≡ all_handled b (all_handled a ds)
handled_twice zero b ds = let none : 0 + b ≡ b = omega arith in ap (λ k. all_handled k ds) none
handled_twice (suc a) b ds =
    let one : suc a + b ≡ suc (a + b) = omega arith in
    ap (λ k. all_handled k ds) one ∙ handled_twice a b (with_handled ds)

pub record Splits (hs : List HeldFrame) (first rest : List Popped) : Type 0 where
  pub freed : List HeldFrame
  pub kept : List HeldFrame
  pub all : hs ≡ freed ++ kept
  pub are : AreHeldAs freed first
  pub rest_are : AreHeldAs kept rest

splits : (hs : List HeldFrame) (first rest : List Popped) → AreHeldAs hs (first ++ rest) → Splits hs first rest
splits hs [] rest are = record { freed = []; kept = hs; all = refl; are = tt; rest_are = are }
splits [] (p ∷ first) rest are = absurd are
splits (h ∷ hs) (p ∷ first) rest are =
    let s = splits hs first rest are.1 in
    record {
      freed = h ∷ s.freed;
      kept = s.kept;
      all = ap (λ ks. h ∷ ks) s.all;
      are = (are.0, s.are);
      rest_are = s.rest_are;
    }

first_held : (hs : List HeldFrame) (ps : List Popped) (p : Popped) (more : List Popped) → AreHeldAs hs ps →
    ps ≡ p ∷ more → (h : HeldFrame) × (later : List HeldFrame) × (hs ≡ h ∷ later) × (h.from ≡ p.from)
    × (h.number ≡ p.number)
first_held [] [] p more are e = absurd (cc (e))
first_held [] (q ∷ ps) p more are e = absurd are
first_held (h ∷ hs) [] p more are e = absurd are
first_held (h ∷ hs) (q ∷ ps) p more are e =
    let same : q ≡ p = cc (e) in
    (h, hs, refl, are.0.0 ∙ ap (λ (x : Popped). x.from) same, are.0.1 ∙ ap (λ (x : Popped). x.number) same)

none_held : (hs : List HeldFrame) (ps : List Popped) → AreHeldAs hs ps → ps ≡ [] → hs ≡ []
none_held [] ps are e = refl
none_held (h ∷ hs) [] are e = absurd are
none_held (h ∷ hs) (p ∷ ps) are e = absurd (cc (e))

-- Where it halts

-- the input at which it halts, where this many items were handled, and these were or weren't due
abbrev pub StopsAt : Network → List Disturb → NodeId → List Doing → List Popped → List Popped → ℕ → Waiting → Type 0
StopsAt t lines n here other pops done TickAsked = ⊥
StopsAt t lines n here other pops done (DueFrame u k) =
    (p : Popped) × (more : List Popped) × (other ≡ p ∷ more) × (p.from ≡ u) × (p.number ≡ k)
StopsAt t lines n here other pops done DeskItem = (other ≡ []) × (done < items_after t n here)
StopsAt t lines n here other pops done (RingFrame u k) =
    (first : List Popped) × (p : Popped) × (more : List Popped) × (pops ≡ first ++ p ∷ more) × (p.from ≡ u)
    × (p.number ≡ k) × IsDelivered (says lines u n k)

-- how far the turn went
pub record TurnReaches (t : Network) (lines : List Disturb) (n : NodeId) (tick : Bool) (before : List Doing)
    (due pops : List Popped) : Type 0 where
  pub first : List Popped
  pub other : List Popped
  pub due_is : due ≡ first ++ other
  pub done : ℕ
  pub few : done ≤ items_after t n (all_freed (tick_if tick before) first)
  pub took : List Popped
  pub last : List Doing
  pub lacks : MayLack lines n last
  pub left : Waiting
  pub stops : StopsAt t lines n (all_freed (tick_if tick before) first) other pops done left
  pub made : List Doing
  pub made_is : made ≡ all_taken lines n (all_handled done (all_freed (tick_if tick before) first)) took ++ last
  pub is : (turn_to t lines n tick before due pops).doings ≡ made ++ Left left ∷ []
  pub rest : List Doing
  pub whole : turn_after t lines n tick before due pops ≡ made ++ rest
  pub limit : AreDoingsAtLimit made (due ++ pops)

pub reaches_halted : (t : Network) (lines : List Disturb) (n : NodeId) (tick : Bool) (before : List Doing)
    (due pops : List Popped) → AreHeldAs (due_in (tick_if tick before)) due →
    TurnReaches t lines n tick before due pops → HasHalted t lines n tick before due pops
reaches_halted t lines n tick before due pops are r = record {
  added = added;
  left = r.left;
  all = r.is ∙ ap (λ ks. ks ++ Left r.left ∷ []) made;
  cut = cut;
  hand = hand r.left r.stops;
  rest = r.rest;
  whole = r.whole ∙ ap (λ ks. ks ++ r.rest) made;
  limit = subst (λ ks. AreDoingsAtLimit ks (due ++ pops)) made r.limit;
}
  where
    a : Ticks tick before
    a = ticks tick before

    s : Splits (due_in (tick_if tick before)) r.first r.other
    s = splits (due_in (tick_if tick before)) r.first r.other
        (subst (AreHeldAs (due_in (tick_if tick before))) r.due_is are)

    b : Dues s.freed (tick_if tick before) r.first
    b = dues s.freed (tick_if tick before) r.first s.are

    here : List Doing
    here = all_freed (tick_if tick before) r.first

    c : Items r.done here
    c = items r.done here

    d : Takes lines n (all_handled r.done here) r.took
    d = takes lines n (all_handled r.done here) r.took

    added : List Doing
    added = a.more ++ (b.more ++ (c.more ++ (all_doings d.takings ++ r.last)))

    here_is : here ≡ before ++ (a.more ++ b.more)
    here_is = b.all ∙ ap (λ ks. ks ++ b.more) a.all ∙ append_assoc before a.more b.more

    made : r.made ≡ before ++ added
    made =
        r.made_is ∙ ap (λ ks. ks ++ r.last) (d.all ∙ ap (λ ks. ks ++ all_doings d.takings) (c.all
        ∙ ap (λ ks. ks ++ c.more) here_is))
        ∙ append_assoc ((before ++ (a.more ++ b.more)) ++ c.more) (all_doings d.takings) r.last
        ∙ append_assoc (before ++ (a.more ++ b.more)) c.more (all_doings d.takings ++ r.last)
        ∙ append_assoc before (a.more ++ b.more) (c.more ++ (all_doings d.takings ++ r.last))
        ∙ ap (λ ks. before ++ ks) (append_assoc a.more b.more (c.more ++ (all_doings d.takings ++ r.last)))

    cut : IsCutTurnOf t lines n tick before added
    cut = record {
      ticks = a.more;
      dues = b.more;
      items = c.more;
      takings = d.takings;
      last = r.last;
      all = refl;
      is_tick = inr a.is;
      freed = s.freed;
      kept = s.kept;
      due = sym (ap due_in a.all) ∙ s.all;
      are_due = b.are;
      handled = c.are;
      few = subst (λ k. k ≤ items_after t n (before ++ (a.more ++ b.more))) (sym c.count)
          (subst (λ ks. r.done ≤ items_after t n ks) here_is r.few);
      are_takings = d.are;
      lacks = r.lacks;
    }

    hand : (w : Waiting) → StopsAt t lines n here r.other pops r.done w → IsAtHand t lines n tick before added cut pops w
    hand TickAsked h = absurd h
    hand (DueFrame u k) h =
        let f = first_held s.kept r.other h.0 h.1 s.rest_are h.2 in (f.0, f.1, f.2, f.3 ∙ h.3, f.4 ∙ h.4)
    hand DeskItem h = (
      none_held s.kept r.other s.rest_are h.0,
      subst (λ k. k < items_after t n (before ++ (a.more ++ b.more))) (sym c.count)
          (subst (λ ks. r.done < items_after t n ks) here_is h.1),
    )
    hand (RingFrame u k) h = h

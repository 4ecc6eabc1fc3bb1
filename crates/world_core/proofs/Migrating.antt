-- One event more of a migration, and what holds of every one.
use Rattle.std.proofs.Common.{◌≡◌, ◌+◌, ◌<◌, ℕ, List, [], ◌∷◌, ◌++◌, get_or, length, take, refl, sym, ap, ◌∙◌, subst, inl, inr, arith}
use Rattle.ason_base.specs.{declared.commands.Event.Event, Network.Network}
use Rattle.world_core.specs.{Migration.{AllOfARunAreKept, AreKept, EveryMigrationIsOne, NoneOfARunIsLeftOut, WhatIsKeptIsARun, WhatIsRefusedIsLeftOut}, Replays.{HasStepped, IsDisabled, StateStandsFor, WorldState}}
use Rattle.world_core.proofs.Replaying.{after-more, next-event, not_in_run}
use Rattle.world_rules.specs.{WorldRuns.{IsEnabled, IsWorldRun, world_after, world_step}, Worlds.{World, world_start}}

-- One event more, which is enabled, or isn't

kept-more : (t : Network) (w : World) (es kept : List Event) (n : ℕ) (e : Event) → AreKept t w es kept n →
    IsEnabled t (world_after t w kept) e → AreKept t w (es ++ e ∷ []) (kept ++ e ∷ []) n
kept-more t w [] kept n e are on =
    inl (subst (λ k. IsEnabled t (world_after t w k) e) are.0 on, ([], ap (λ k. k ++ e ∷ []) are.0, (refl, are.1)))
kept-more t w (x ∷ es) kept n e (inl (enabled, (later, is, are))) on =
    let enough = subst (λ k. IsEnabled t (world_after t w k) e) is on in
    inl (enabled, (later ++ e ∷ [], ap (λ k. k ++ e ∷ []) is, kept-more t (world_step t w x) es later n e are enough))
kept-more t w (x ∷ es) kept n e (inr (disabled, (m, is, are))) on =
    inr (disabled, (m, is, kept-more t w es kept m e are on))

left-out-more : (t : Network) (w : World) (es kept : List Event) (n : ℕ) (e : Event) → AreKept t w es kept n →
    ¬ IsEnabled t (world_after t w kept) e → AreKept t w (es ++ e ∷ []) kept (n + 1)
left-out-more t w [] kept n e are off =
    inr (subst (λ k. ¬ IsEnabled t (world_after t w k) e) are.0 off, (n, refl, are))
left-out-more t w (x ∷ es) kept n e (inl (enabled, (later, is, are))) off =
    let stuck = subst (λ k. ¬ IsEnabled t (world_after t w k) e) is off in
    inl (enabled, (later, is, left-out-more t (world_step t w x) es later n e are stuck))
left-out-more t w (x ∷ es) kept n e (inr (disabled, (m, is, are))) off =
    inr (disabled, (m + 1, ap (λ k. k + 1) is, left-out-more t w es kept m e are off))

-- of these events just those are kept and so many left out, and the state stands for the world to which those lead
pub record HasKeptEvents (t : Network) (events kept : List Event) (n : ℕ) (k : WorldState) : Type 0 where
  pub are : AreKept t (world_start t) events kept n
  pub stands : StateStandsFor t k (world_after t (world_start t) kept)

-- the next event is enabled, so it is kept
pub keeps-next : (t : Network) (events kept more : List Event) (n m i : ℕ) (e : Event) (k next : WorldState) →
    i < length events → e ≡ get_or events i e → more ≡ kept ++ e ∷ [] → m ≡ n →
    HasKeptEvents t (take i events) kept n k → HasStepped t k e next → HasKeptEvents t (take (i + 1) events) more m next
keeps-next t events kept more n m i e k next within at added same is stepped =
    let made = stepped (world_after t (world_start t) kept) is.stands in
    let now : HasKeptEvents t (take i events ++ e ∷ []) (kept ++ e ∷ []) n next = record {
      are = kept-more t (world_start t) (take i events) kept n e is.are made.0;
      stands = subst (StateStandsFor t next) (sym (after-more t kept e (world_start t))) made.1;
    } in
    rw (next-event events i e within at, added, same) now

-- the next event isn't enabled, so it is left out
pub leaves-next : (t : Network) (events kept more : List Event) (n m i : ℕ) (e : Event) (k next : WorldState) →
    i < length events → e ≡ get_or events i e → more ≡ kept → m ≡ n + 1 →
    HasKeptEvents t (take i events) kept n k → IsDisabled t k e → next ≡ k →
    HasKeptEvents t (take (i + 1) events) more m next
leaves-next t events kept more n m i e k next within at same counted is disabled unmoved =
    let stuck = disabled (world_after t (world_start t) kept) is.stands in
    let now : HasKeptEvents t (take i events ++ e ∷ []) kept (n + 1) k = record {
      are = left-out-more t (world_start t) (take i events) kept n e is.are stuck;
      stands = is.stands;
    } in
    rw (next-event events i e within at, same, counted, unmoved) now

-- Laws

-- what is kept is a run
pub kept-run : WhatIsKeptIsARun
kept-run t w [] kept n are = subst (IsWorldRun t w) (sym are.0) tt
kept-run t w (e ∷ es) kept n (inl (enabled, (later, is, are))) =
    subst (IsWorldRun t w) (sym is) (enabled, kept-run t (world_step t w e) es later n are)
kept-run t w (e ∷ es) kept n (inr (disabled, (m, is, are))) = kept-run t w es kept m are

-- of a run all are kept
pub all-kept : AllOfARunAreKept
all-kept t w [] run = (refl, refl)
all-kept t w (e ∷ es) run = inl (run.0, (es, refl, all-kept t (world_step t w e) es run.1))

-- one list is kept, and one number left out
pub one-kept : EveryMigrationIsOne
one-kept t w [] kept others n m x y = (x.0 ∙ sym y.0, x.1 ∙ sym y.1)
one-kept t w (e ∷ es) kept others n m (inl (on, (later, is, x))) (inl (on_too, (rest, is_too, y))) =
    let same = one-kept t (world_step t w e) es later rest n m x y in
    (is ∙ ap (λ k. e ∷ k) same.0 ∙ sym is_too, same.1)
one-kept t w (e ∷ es) kept others n m (inl (on, x)) (inr (off, y)) = absurd (off on)
one-kept t w (e ∷ es) kept others n m (inr (off, x)) (inl (on, y)) = absurd (off on)
one-kept t w (e ∷ es) kept others n m (inr (off, (i, is, x))) (inr (off_too, (j, is_too, y))) =
    let same = one-kept t w es kept others i j x y in
    (same.0, is ∙ ap (λ k. k + 1) same.1 ∙ sym is_too)

none-left : (t : Network) (w : World) (es kept : List Event) (n : ℕ) → AreKept t w es kept n → n ≡ 0 → kept ≡ es
none-left t w [] kept n are none = are.0
none-left t w (e ∷ es) kept n (inl (on, (later, is, are))) none =
    is ∙ ap (λ k. e ∷ k) (none-left t (world_step t w e) es later n are none)
none-left t w (e ∷ es) kept n (inr (off, (m, is, are))) none = absurd (omega (arith, is, none))

-- none is left out just where the events are a run
pub run-kept : NoneOfARunIsLeftOut
run-kept t w es kept n are = (
  λ none. subst (IsWorldRun t w) (none-left t w es kept n are none) (kept-run t w es kept n are),
  λ run. (one-kept t w es kept es n 0 are (all-kept t w es run)).1,
)

-- where a replay refuses an event, one is left out
pub refused-left : WhatIsRefusedIsLeftOut
refused-left t es kept i n first are none =
    not_in_run t es i first ((run-kept t (world_start t) es kept n are).0 none)

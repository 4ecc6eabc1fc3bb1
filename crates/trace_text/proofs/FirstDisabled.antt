-- Only one event is the first that isn't enabled.
use Rattle.std.proofs.Common.{◌≡◌, ◌∙◌, ◌+◌, ℕ, List, [], ◌∷◌, ◌++◌, length, refl, ap, sym, subst, arith}
use Rattle.ason_base.specs.{Network.Network, declared.commands.Event.Event}
use Rattle.world_core.specs.Replays.{IsFirstDisabled}
use Rattle.world_rules.specs.{WorldRuns.{IsEnabled, IsWorldRun, world_after, world_step}, Worlds.{World, world_start}}

first_is_one : (t : Network) (w : World) (before first : List Event) (e f : Event) (later rest : List Event) →
    before ++ e ∷ later ≡ first ++ f ∷ rest → IsWorldRun t w before → IsWorldRun t w first →
    ¬ IsEnabled t (world_after t w before) e → ¬ IsEnabled t (world_after t w first) f → length before ≡ length first
first_is_one t w [] [] e f later rest all run also off down = refl
first_is_one t w [] (x ∷ first) e f later rest all run also off down =
    let same : e ≡ x = cc (all) in
    absurd (off (subst (IsEnabled t w) (sym same) also.0))
first_is_one t w (x ∷ before) [] e f later rest all run also off down =
    let same : x ≡ f = cc (all) in
    absurd (down (subst (IsEnabled t w) same run.0))
first_is_one t w (x ∷ before) (y ∷ first) e f later rest all run also off down =
    let same : x ≡ y = cc (all) in
    let others : before ++ e ∷ later ≡ first ++ f ∷ rest = cc (all) in
    let next : IsWorldRun t (world_step t w x) first =
    subst (λ (z : Event). IsWorldRun t (world_step t w z) first) (sym same) also.1 in
    let stuck : ¬ IsEnabled t (world_after t (world_step t w x) first) f =
    subst (λ (z : Event). ¬ IsEnabled t (world_after t (world_step t w z) first) f) (sym same) down in
    let shorter = first_is_one t (world_step t w x) before first e f later rest others run.1 next off stuck in
    omega (arith, shorter)

-- only one event is the first that isn't enabled
pub one_first : (t : Network) (es : List Event) (i j : ℕ) → IsFirstDisabled t es i → IsFirstDisabled t es j → i ≡ j
one_first t es i j this that =
    this.counted
    ∙ (ap (λ k. k + 1)
    (first_is_one t (world_start t) this.before that.before this.event that.event this.later that.later
    (sym this.all ∙ that.all) this.run that.run this.disabled that.disabled)
    ∙ sym that.counted)

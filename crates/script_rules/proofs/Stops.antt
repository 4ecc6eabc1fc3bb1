-- A run is stopped at a node whose log is full.
use Rattle.std.proofs.Common.{◌≡◌, ℕ, zero, suc, Bool, true, false, cond, List, [], ◌∷◌, length, refl, ap, sym, subst, ◌∙◌, arith}
use Rattle.std.specs.Prelude.{◌==◌, Option, None, Some, is_some}
use Rattle.ason_base.specs.{declared.limits.TheConstants.MOST_EVENTS, declared.commands.Disturb.Disturb, declared.ids.NodeId.NodeId, Network.Network}
use Rattle.round_rules.specs.{Records.{Record, log_at}, Commands.{noised, record_posted}}
use Rattle.plan_reader.specs.{declared.lines.Line.Line, declared.lines.Line.TheVariants.{Noise, Post, Settle, Wait, Show}}
use Rattle.plan_reader.specs.declared.lines.Line.TheVariants as said
use Rattle.script_rules.specs.{ScriptLaws.StopsAreFull, Stages.{ComesTo, IsFull, LineMakes, Stage, is_settled, is_stopped, last_stage_of, with_line, with_noise, with_post}}
use Rattle.script_rules.proofs.{Follows.last_append, Rounds.{GoesRounds, settles-go, waits-go}}

comes_full : (t : Network) (lines : List Disturb) (workers : ℕ) (before after : Record) (o : Option NodeId) →
    ComesTo t lines workers before after o → IsFull after o
comes_full t lines workers before after None comes = tt
comes_full t lines workers before after (Some n) comes = comes.stopped.full

rounds_full : (over : Stage → Bool) (t : Network) (workers rounds : ℕ) (s : Stage) (more : List Stage) →
    IsFull s.made s.stopped → GoesRounds over t workers rounds s more →
    IsFull (last_stage_of s more).made (last_stage_of s more).stopped
rounds_full over t workers zero s [] full x = full
rounds_full over t workers zero s (a ∷ more) full x = absurd x
rounds_full over t workers (suc rounds) s [] full x = full
rounds_full over t workers (suc rounds) s (a ∷ more) full x =
    rounds_full over t workers rounds a more (comes_full t s.lines workers s.made a.made a.stopped x.1.comes) x.2

-- one stage more, where it is full or stopped by nothing
one_full : (s a : Stage) → (is_stopped s ≡ false → IsFull a.made a.stopped) → IsFull s.made s.stopped →
    IsFull (last_stage_of s (cond (is_stopped s) [] (a ∷ []))).made
    (last_stage_of s (cond (is_stopped s) [] (a ∷ []))).stopped
one_full s a going full = go (is_stopped s) refl
  where
    go : (b : Bool) → is_stopped s ≡ b →
        IsFull (last_stage_of s (cond b [] (a ∷ []))).made (last_stage_of s (cond b [] (a ∷ []))).stopped
    go true e = full
    go false e = going e

none_stopped : (o : Option NodeId) → is_some o ≡ false → o ≡ None
none_stopped None e = refl
none_stopped (Some n) e = absurd (cc (e))

-- what isn't stopped is full of nothing
going_full : (s : Stage) (r : Record) → is_stopped s ≡ false → IsFull r s.stopped
going_full s r e = subst (IsFull r) (sym (none_stopped s.stopped e)) tt

noise_full : (u d : NodeId) (bytes : List ℕ) (s : Stage) → is_stopped s ≡ false →
    IsFull (with_noise u d bytes s).made (with_noise u d bytes s).stopped
noise_full u d bytes s e = go (length (log_at s.made d.0) == MOST_EVENTS) refl
  where
    after : Bool → Stage
    after full = cond full (record s { stopped = Some d }) (record s { made = noised u d bytes s.made })

    go : (full : Bool) → (length (log_at s.made d.0) == MOST_EVENTS) ≡ full →
        IsFull (after full).made (after full).stopped
    go true is = grind (arith, is)
    go false is = going_full s (noised u d bytes s.made) e

line_full : (t : Network) (workers : ℕ) (line : Line) (s : Stage) (more : List Stage) → IsFull s.made s.stopped →
    LineMakes t workers line s more → IsFull (last_stage_of s more).made (last_stage_of s more).stopped
line_full t workers (Post c) s more full x =
    subst (λ ss. IsFull (last_stage_of s ss).made (last_stage_of s ss).stopped) (sym x)
    (one_full s (with_post t c s) (going_full s (record_posted t c s.made)) full)
line_full t workers (said.Disturb d) s more full x =
    subst (λ ss. IsFull (last_stage_of s ss).made (last_stage_of s ss).stopped) (sym x)
    (one_full s (with_line t d s) (going_full s s.made) full)
line_full t workers (Noise u d bytes) s more full x =
    subst (λ ss. IsFull (last_stage_of s ss).made (last_stage_of s ss).stopped) (sym x)
    (one_full s (with_noise u d bytes s) (noise_full u d bytes s) full)
line_full t workers (Settle rounds) s more full x =
    rounds_full (is_settled t) t workers rounds s more full (settles-go t workers rounds s more x)
line_full t workers (Wait rounds) s more full x =
    rounds_full is_stopped t workers rounds s more full (waits-go t workers rounds s more x)
line_full t workers Show s more full x =
    subst (λ ss. IsFull (last_stage_of s ss).made (last_stage_of s ss).stopped) (sym x) full

pub stops_full : StopsAreFull
stops_full p how [] s more text full prints =
    subst (λ ss. IsFull (last_stage_of s ss).made (last_stage_of s ss).stopped) (sym prints.0) full
stops_full p how (line ∷ lines) s more text full prints =
    subst (λ (z : Stage). IsFull z.made z.stopped)
    (sym (ap (last_stage_of s) prints.7 ∙ last_append s prints.0 prints.1))
    (stops_full p how lines (last_stage_of s prints.0) prints.1 prints.3
    (line_full p.topology how.workers line s prints.0 full prints.4) prints.6)

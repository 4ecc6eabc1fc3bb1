use Rattle.std.proofs.Common.{◌≡◌, true, false, sym, ap, subst, Err}
use Rattle.std.specs.Prelude.{IfOk}
use Rattle.flood.specs.Frames.{SpellsNothing}
use Rattle.world_core.proofs.noise.spells_nothing.Goals.{in-Ok, in-Err-NotMessage, in-Err-OutOfMemory}
use Rattle.world_core.proofs.noise.spells_nothing.Goals as goal

pub returns-clause-something : goal.returns-clause-something
returns-clause-something c = elim c.match-read_frame.branch [
  | in-Ok w ↦ subst (λ r. IfOk r (λ b. b ≡ false → ¬ SpellsNothing c.args.bytes.now)) (sym w.result-is)
      (λ no none. none w.in-Ok.field-0 w.in-Ok.ensures.found)
  | in-Err-NotMessage w ↦ subst (λ r. IfOk r (λ b. b ≡ false → ¬ SpellsNothing c.args.bytes.now)) (sym w.result-is)
      (λ no. absurd (cc (no)))
  | in-Err-OutOfMemory w ↦ subst (λ r. IfOk r (λ b. b ≡ false → ¬ SpellsNothing c.args.bytes.now)) (sym w.result-is) tt
]

pub returns-clause-nothing : goal.returns-clause-nothing
returns-clause-nothing c = elim c.match-read_frame.branch [
  | in-Ok w ↦ subst (λ r. IfOk r (λ b. b ≡ true → SpellsNothing c.args.bytes.now)) (sym w.result-is)
      (λ yes. absurd (cc (yes)))
  | in-Err-NotMessage w ↦ subst (λ r. IfOk r (λ b. b ≡ true → SpellsNothing c.args.bytes.now)) (sym w.result-is)
      (λ yes. w.in-Err-NotMessage.ensures.not_message (ap Err w.in-Err-NotMessage.field-0-is))
  | in-Err-OutOfMemory w ↦ subst (λ r. IfOk r (λ b. b ≡ true → SpellsNothing c.args.bytes.now)) (sym w.result-is) tt
]

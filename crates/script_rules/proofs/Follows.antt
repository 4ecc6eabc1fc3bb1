-- Lines after lines.
use Rattle.std.proofs.Common.{◌≡◌, ℕ, List, [], ◌∷◌, ◌++◌, refl, ap, sym, subst, ◌∙◌, append_assoc}
use Rattle.script_rules.specs.{ScriptLaws.LinesFollow, Outputs.Prints, Stages.{Stage, last_stage_of}}

-- The last stage of two lists is the last one of the second, after the first.
pub last_append : (s : Stage) (xs ys : List Stage) → last_stage_of s (xs ++ ys) ≡ last_stage_of (last_stage_of s xs) ys
last_append s [] ys = refl
last_append s (x ∷ xs) ys = last_append x xs ys

-- What the first lines print, and then the later ones, is what all of them print.
pub lines_follow : LinesFollow
lines_follow p how [] ys s first others here later one two =
    subst (λ (ss : List Stage). Prints p how ys s (ss ++ others) (here ++ later)) (sym one.0)
    (subst (λ (text : List ℕ). Prints p how ys s others (text ++ later)) (sym one.1)
    (subst (λ (ss : List Stage). Prints p how ys (last_stage_of s ss) others later) one.0 two))
lines_follow p how (line ∷ lines) ys s first others here later one two = (
  one.0,
  one.1 ++ others,
  one.2,
  one.3 ++ later,
  one.4,
  one.5,
  lines_follow p how lines ys (last_stage_of s one.0) one.1 others one.3 later one.6
      (subst (λ (z : Stage). Prints p how ys z others later) (ap (last_stage_of s) one.7 ∙ last_append s one.0 one.1)
      two),
  ap (λ (ss : List Stage). ss ++ others) one.7 ∙ append_assoc one.0 one.1 others,
  ap (λ (text : List ℕ). text ++ later) one.8 ∙ append_assoc one.2 one.3 later,
)

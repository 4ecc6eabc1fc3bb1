-- A `fail` line behind which rounds alone are made is found among the stages of its script.
use Rattle.std.proofs.Common.{◌≡◌, ◌⊎◌, inl, inr, ℕ, Bool, true, false, cond, List, [], ◌∷◌, ◌++◌, refl, sym, ap, subst, ◌∙◌, append-nil, append_assoc}
use Rattle.ason_base.specs.declared.commands.Command.TheVariants.{Fail}
use Rattle.plan_reader.specs.{declared.lines.Line.Line, declared.lines.Line.TheVariants.Post, declared.plan.Plan.Plan}
use Rattle.script_rules.specs.{Outputs.{How, Prints}, Restoring.{FailsLast, IsStoppedBefore, with_failure}, ScriptLaws.FailLinesFail, Stages.{Stage, is_stopped, last_stage_of, new_stage}}
use Rattle.script_rules.proofs.{Follows.last_append, Posts.lines_none}

-- what lines make and print, and then others
record ArePrinted (p : Plan) (how : How) (xs ys : List Line) (s : Stage) (more : List Stage) : Type 0 where
  first : List Stage
  others : List Stage
  here : List ℕ
  later : List ℕ
  one : Prints p how xs s first here
  two : Prints p how ys (last_stage_of s first) others later
  all : more ≡ first ++ others

-- Lines make what some first ones make, and then what the others do.
parted : (p : Plan) (how : How) (xs ys : List Line) (s : Stage) (more : List Stage) (text : List ℕ) →
    Prints p how (xs ++ ys) s more text → ArePrinted p how xs ys s more
parted p how [] ys s more text prints =
    record { first = []; others = more; here = []; later = text; one = (refl, refl); two = prints; all = refl }
parted p how (x ∷ xs) ys s more text prints =
    let rest = parted p how xs ys (last_stage_of s prints.0) prints.1 prints.3 prints.6 in
    record {
      first = prints.0 ++ rest.first;
      others = rest.others;
      here = prints.2 ++ rest.here;
      later = rest.later;
      one = (
        prints.0,
        rest.first,
        prints.2,
        rest.here,
        prints.4,
        prints.5,
        rest.one,
        refl,
        refl,
      );
      two = subst (λ z. Prints p how ys z rest.others rest.later) (sym (last_append s prints.0 rest.first)) rest.two;
      all = prints.7 ∙ ap (λ ss. prints.0 ++ ss) rest.all ∙ sym (append_assoc prints.0 rest.first rest.others);
    }

-- Each such line is the last failure of its stages, unless the run was stopped before it.
pub fail-lines_fail : FailLinesFail
fail-lines_fail p how first behind g more text prints only = go (is_stopped s) refl
  where
    one : ArePrinted p how first (Post (Fail g) ∷ behind) new_stage more
    one = parted p how first (Post (Fail g) ∷ behind) new_stage more text prints

    s : Stage
    s = last_stage_of new_stage one.first

    failed : Stage
    failed = with_failure p.topology g s

    go : (b : Bool) → is_stopped s ≡ b → FailsLast p how more g ⊎ IsStoppedBefore p how first more
    go true stop =
        let none : one.others ≡ [] = lines_none p how (Post (Fail g) ∷ behind) s one.others one.later stop one.two in
        let same : one.first ≡ more = sym (one.all ∙ ap (λ ss. one.first ++ ss) none ∙ append-nil one.first) in
        inr (record {
          here = one.here;
          printed = subst (λ ss. Prints p how first new_stage ss one.here) same one.one;
          stopped = subst (λ ss. is_stopped (last_stage_of new_stage ss) ≡ true) same stop;
        })
    go false goes =
        let made : one.two.0 ≡ failed ∷ [] = one.two.4 ∙ ap (λ b. cond b [] (failed ∷ [])) goes in
        inl (record {
          first = first;
          before = one.first;
          here = one.here;
          begun = one.one;
          behind = behind;
          only = only;
          rounds = one.two.1;
          later = one.two.3;
          ended = subst (λ ss. Prints p how behind (last_stage_of s ss) one.two.1 one.two.3) made one.two.6;
          parts = ap (λ ss. one.first ++ (ss ++ one.two.1)) (sym made) ∙ ap (λ ss. one.first ++ ss) (sym one.two.7)
              ∙ sym one.all;
        })

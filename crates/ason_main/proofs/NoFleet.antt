-- What is answered where no fleet is made.
use Rattle.std.proofs.Common.{◌≡◌, ℕ, List, inl, inr, refl, subst, sym}
use Rattle.std.specs.Prelude.{Option, None, Err}
use Rattle.fleet.specs.Standing.{FleetState}
use Rattle.plan_reader.specs.{declared.faults.PlanFault.PlanFault, PlanTexts.word_at, Plans.PlanOf}
use Rattle.table_text.specs.FaultText.{refused_text}
use Rattle.commands.specs.{Replies.{Ask, Check, Decode, PlanRefused, Request, Run, Survey, TakesPlan, Trace, Watch, IsAskAnswered, IsCheckAnswered, IsDecodeAnswered, IsPlanRefused, request_for}, declared.status.Status.Status, declared.tasks.Inquiry.Inquiry, declared.tasks.Question.Question}
use Rattle.ason_main.specs.Answers.{IsAnswered, IsJudged}
use Rattle.ason_main.proofs.Replies.{starved, told_other}

-- Bytes that are no plan

fault_judged : (k : Request) (bs : List ℕ) (f : PlanFault) (kept : Option FleetState) → TakesPlan k →
    PlanOf bs (Err f) → kept ≡ None → IsJudged k bs (PlanRefused (refused_text f)) kept
fault_judged (Run pace) bs f kept takes fault none = ((f, fault, refl), none)
fault_judged (Trace pace) bs f kept takes fault none = ((f, fault, refl), none)
fault_judged (Watch pace name) bs f kept takes fault none = ((f, fault, refl), none)
fault_judged Check bs f kept takes fault none = absurd takes
fault_judged Decode bs f kept takes fault none = absurd takes
fault_judged Survey bs f kept takes fault none = ((f, fault, refl), none)
fault_judged (Ask question from to) bs f kept takes fault none = ((f, fault, refl), none)

-- the fault of what is no plan was told, or memory was wanting
pub refused : {K : Type 0} (written : K → Option (List ℕ)) (faults : K → ℕ) (k : Request) (bs : List ℕ) (old new : K)
    (kept : Option FleetState) (s : Status) → TakesPlan k → kept ≡ None → IsPlanRefused written faults bs old new s →
    IsAnswered written faults k bs old new kept s
refused written faults k bs old new kept s takes none (inl (f, fault, inl told)) = (
  PlanRefused (refused_text f),
  fault_judged k bs f kept takes fault none,
  told,
  told_other written faults k (PlanRefused (refused_text f)) old new (refused_text f) Status.PlanRefused s tt
      (λ e. absurd (cc (e))) told,
)
refused written faults k bs old new kept s takes none (inl (f, fault, inr nothing)) =
    starved written faults k bs old new kept s none nothing
refused written faults k bs old new kept s takes none (inr nothing) =
    starved written faults k bs old new kept s none nothing

-- Other answers, each of which is one of `ason`, with no fleet kept

module _ {K : Type 0} (written : K → Option (List ℕ)) (faults : K → ℕ) (words : List (List ℕ)) (q : Inquiry)
    (bs : List ℕ) (old new : K) (kept : Option FleetState) (s : Status) (none : kept ≡ None) where
  abbrev IsTheAnswer : Inquiry → Type 0
  IsTheAnswer x = IsAnswered written faults (request_for words x) bs old new kept s

  pub check_answered : q ≡ Inquiry.Check → IsCheckAnswered written faults bs old new s → IsTheAnswer q
  check_answered is given = subst IsTheAnswer (sym is) (given.0, (given.1, none), given.2, tt)

  pub decode_answered : q ≡ Inquiry.Decode → IsDecodeAnswered written faults bs old new s → IsTheAnswer q
  decode_answered is given = subst IsTheAnswer (sym is) (given.0, (given.1, none), given.2, tt)

  pub ask_answered : (question : Question) (from to : List ℕ) → q ≡ Inquiry.Ask question → from ≡ word_at words 1 →
      to ≡ word_at words 2 → IsAskAnswered written faults question from to bs old new s → IsTheAnswer q
  ask_answered question from to is first second given =
      subst IsTheAnswer (sym is) (told.0, (told.1, none), told.2, tt)
    where
      told : IsAskAnswered written faults question (word_at words 1) (word_at words 2) bs old new s
      told = subst (λ x. IsAskAnswered written faults question x (word_at words 2) bs old new s) first
          (subst (λ x. IsAskAnswered written faults question from x bs old new s) second given)

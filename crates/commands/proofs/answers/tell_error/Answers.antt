use Rattle.std.proofs.{Common.{inl, inr, refl, subst, true}, KnownBytes.Appends-nil}
use Rattle.std.specs.Prelude.{Err}
use Rattle.plan_reader.specs.Plans.{Answers, PlanOf}
use Rattle.commands.proofs.answers.tell_error.Goals as goal

pub returns-in-Fault : goal.returns-in-Fault
returns-in-Fault g c bs answers =
    let fault : PlanOf bs (Err c.in-Fault.fault) = subst (λ e. Answers true bs (Err e)) c.in-Fault.is answers in
    inl (c.in-Fault.fault, fault, c.refuse.ensures)

pub returns-in-OutOfMemory : goal.returns-in-OutOfMemory
returns-in-OutOfMemory g c bs answers = inr (refl, Appends-nil (g.K.Sink.written c.args.out.now))

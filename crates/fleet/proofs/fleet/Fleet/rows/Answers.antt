use Rattle.std.proofs.{Common.{ap, ◌∙◌}, lemmas.Result.IfOk-weaker}
use Rattle.fleet.specs.Standing.{FleetState}
use Rattle.fleet.proofs.Sums.{calls-stand, legs-stand}
use Rattle.fleet.proofs.fleet.Fleet.rows.Goals as goal

pub returns-clause-calls : goal.returns-clause-calls
returns-clause-calls c =
    IfOk-weaker c.rows_of.result _ _
    (λ rows is t lines r s. is ∙ calls-stand t lines c.args.self.now r s c.deref.result.now
    (c.deref.ensures.value ∙ ap (λ (x : FleetState). x.stations) c.self.view_is)) c.rows_of.ensures.calls

pub returns-clause-legs : goal.returns-clause-legs
returns-clause-legs c =
    IfOk-weaker c.rows_of.result _ _
    (λ rows is t lines r s. is ∙ legs-stand t lines c.args.self.now r s c.deref.result.now
    (c.deref.ensures.value ∙ ap (λ (x : FleetState). x.stations) c.self.view_is)) c.rows_of.ensures.legs

use Rattle.std.proofs.{Common.{◌∙◌, ap}, lemmas.Result.IfOk-weaker}
use Rattle.mesh_rules.specs.Rows.{call_rows, leg_rows}
use Rattle.world_core.specs.Replays.{WorldState}
use Rattle.world_core.proofs.Tabled.{rows-stand}
use Rattle.world_core.proofs.world.World.rows.Goals as goal

pub returns-clause-calls : goal.returns-clause-calls
returns-clause-calls c =
    IfOk-weaker c.rows_of.result _ _
    (λ rows is t w stands. is ∙ rows-stand call_rows t w c.args.self.now c.deref.result.now
    (c.deref.ensures.value ∙ ap (λ (k : WorldState). k.seats) c.self.view_is) stands) c.rows_of.ensures.calls

pub returns-clause-legs : goal.returns-clause-legs
returns-clause-legs c =
    IfOk-weaker c.rows_of.result _ _
    (λ rows is t w stands. is ∙ rows-stand leg_rows t w c.args.self.now c.deref.result.now
    (c.deref.ensures.value ∙ ap (λ (k : WorldState). k.seats) c.self.view_is) stands) c.rows_of.ensures.legs

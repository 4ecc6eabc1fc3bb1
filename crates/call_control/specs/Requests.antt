-- What a backup is asked for with.
use Rattle.std.specs.Prelude.{List, Option}
use Rattle.ason_base.specs.{declared.network.LinkSpec.LinkSpec, declared.risks.Risk.Risk, declared.steps.Step.Step, declared.tables.CallRec.CallRec, declared.tables.Leg.Leg}

-- a call whose working LSP stands, that LSP's leg where it begins, and the backup route that was found, if any
pub record PairRequest : Type 0 where
  pub call : CallRec
  pub work : Leg
  pub found : Option (List Step)

-- where a backup goes, over this link and then these steps, and the route and the risks of its primary
pub record BackupRoute : Type 0 where
  pub out : LinkSpec
  pub rest : List Step
  pub primary : List Step
  pub risks : List Risk

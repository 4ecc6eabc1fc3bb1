-- The table of an ingress's calls.
use Rattle.std.specs.Prelude.{ℕ, nat_lt, List, Option, Some, None}
use Rattle.ason_base.specs.{declared.ids.CallNo.CallNo, declared.tables.CallRec.CallRec, InOrder.RisesBy}

-- the calls in order of number, and the tunnel and LSP numbers that come next
pub record CallTable : Type 0 where
  pub calls : List CallRec
  pub tunnel : ℕ
  pub lsp : ℕ

abbrev pub AreCallsRising : List CallRec → Type 0
AreCallsRising calls = RisesBy (λ c d. nat_lt c.call.0 d.call.0) calls

abbrev pub number_of : Option CallRec → Option CallNo
number_of None = None
number_of (Some c) = Some c.call

-- The order of the numbers of calls.
use Rattle.std.proofs.Common.{refl}
use Rattle.ason_base.specs.{InOrder.IsKeyOrder, declared.ids.CallNo.CallNo}
use Rattle.ason_base.proofs.KeyOrder.{by_key, number_order}
use Rattle.mesh_rules.specs.Calls.{earlier_call, same_call}

pub call_order : IsKeyOrder same_call earlier_call
call_order = by_key (λ (n : CallNo). n.0) (λ n. record { 0 = n }) (λ n. refl) number_order

use Rattle.std.proofs.{Common.{◌≡◌, ◌∙◌, map, ap}, lemmas.Result.IfOk-weaker}
use Rattle.std.specs.Prelude.{filter, nat_lt}
use Rattle.ason_base.specs.{declared.network.LinkSpec.LinkSpec, InOrder.in_order, Network.{other_end, touches}}
use Rattle.mesh_rules.specs.LocalNodes.{local_node}
use Rattle.control_channels.specs.Adjacencies.{neighbours, new_adjacency}
use Rattle.control_channels.proofs.NewHops.{kept-of}
use Rattle.control_channels.proofs.peers.adjacencies.Goals as goal

pub returns-clause-new : goal.returns-clause-new
returns-clause-new c =
    let numbers : c.in_ok-numbers.numbers.items ≡ neighbours (local_node c.args.t.now c.args.n) =
    c.in_ok-numbers.ensures ∙ ap (λ ls. in_order nat_lt
    (map (λ (l : LinkSpec). (other_end l c.args.n).0) (filter (touches c.args.n) ls))) c.links.ensures.list in
    IfOk-weaker c.begun.result _ _ (λ v e. e ∙ ap (map new_adjacency) (c.deref.ensures.value ∙ numbers)) c.begun.ensures

pub returns-clause-kept : goal.returns-clause-kept
returns-clause-kept c =
    let numbers : c.in_ok-numbers.numbers.items ≡ neighbours (local_node c.args.t.now c.args.n) =
    c.in_ok-numbers.ensures ∙ ap (λ ls. in_order nat_lt
    (map (λ (l : LinkSpec). (other_end l c.args.n).0) (filter (touches c.args.n) ls))) c.links.ensures.list in
    IfOk-weaker c.begun.result _ _ (λ v e. kept-of c.args.t.now c.args.n v.items c.links.ensures.valid
    (e ∙ ap (map new_adjacency) (c.deref.ensures.value ∙ numbers))) c.begun.ensures

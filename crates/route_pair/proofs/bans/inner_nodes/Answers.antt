use Rattle.std.proofs.Common.{◌+◌, ◌∙◌, sym, subst, take, take_all}
use Rattle.route_pair.proofs.{BanLists.{AreInner, node_added_at, node_skipped_at}, bans.inner_nodes.Goals.{then-is_other+in_ok-push, else-is_other}}
use Rattle.route_pair.proofs.bans.inner_nodes.Goals as goal

pub loop-step-preserved : goal.loop-step-preserved
loop-step-preserved c =
    let steps = c.items-step-items.result.now in
    let i = c.loop-step.step-index in
    elim c.if-is_other.branch [
      | then-is_other+in_ok-push w ↦
          subst (AreInner c.args.from c.args.to (take (i + 1) steps)) (sym (w.nodes-is ∙ w.in_ok-push.ensures.ok))
          (node_added_at c.args.from c.args.to steps i
          (record { node = record { 0 = 0 }; link = record { 0 = 0 } }) c.loop-step.nodes c.loop-step-test.true
          c.loop-step.invariant (c.is_other.ensures.0 w.if-is_other.true))
      | else-is_other w ↦
          subst (AreInner c.args.from c.args.to (take (i + 1) steps)) (sym w.nodes-is)
          (node_skipped_at c.args.from c.args.to steps i
          (record { node = record { 0 = 0 }; link = record { 0 = 0 } }) c.loop-step.nodes
          c.loop-step-test.true c.loop-step.invariant
          (λ other. absurd (let h = c.is_other.ensures.1 other in let k = w.if-is_other.false in cc (h, k))))
    ]

pub returns : goal.returns
returns c =
    subst (λ steps. AreInner c.args.from c.args.to steps c.loop-step.nodes) c.items-step-items.ensures
    (subst (λ done. AreInner c.args.from c.args.to done c.loop-step.nodes)
    (take_all c.loop-step.step-index c.items-step-items.result.now c.loop-step-test.false) c.loop-step.invariant)

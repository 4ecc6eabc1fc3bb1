use Rattle.std.proofs.Common.{sym, ◌∙◌}
use Rattle.fleet.proofs.{JoinNext.joined-next, JoinOn.{joined-skip, two-read}, JoinSteps.may-be-joined}
use Rattle.fleet.proofs.joining.join_neighbours.Goals as goal

pub join-requires-clause-may : goal.join-requires-clause-may
join-requires-clause-may c =
    let at =
    two-read c.args.t.now c.nodes-nodes.result.now c.args.stations.now c.args.low c.args.high _ _
    c.nodes-nodes.ensures.list c.requires.order c.requires.within c.requires.new.count in
    may-be-joined c.args.t.now c.args.stations.now c.args.low c.args.high _ _ c.requires.order c.requires.new at.0 at.1
    (sym c.is_channel.ensures ∙ c.if-is_channel.true)

pub returns-in_ok-join-clause-new : goal.returns-in_ok-join-clause-new
returns-in_ok-join-clause-new c =
    let at =
    two-read c.args.t.now c.nodes-nodes.result.now c.args.stations.now c.args.low c.args.high _ _
    c.nodes-nodes.ensures.list c.requires.order c.requires.within c.requires.new.count in
    joined-next c.args.t.now c.args.stations.now c.join.new.stations c.args.low c.args.high _ _ c.requires.order
    c.requires.new at.0 at.1 (sym c.is_channel.ensures ∙ c.if-is_channel.true) c.in_ok-join.ensures.joined

pub returns-else-is_channel-clause-new : goal.returns-else-is_channel-clause-new
returns-else-is_channel-clause-new c =
    let at =
    two-read c.args.t.now c.nodes-nodes.result.now c.args.stations.now c.args.low c.args.high _ _
    c.nodes-nodes.ensures.list c.requires.order c.requires.within c.requires.new.count in
    joined-skip c.args.t.now c.args.stations.now c.args.low c.args.high _ _ c.requires.order c.requires.new at.0 at.1
    (sym c.is_channel.ensures ∙ c.if-is_channel.false)

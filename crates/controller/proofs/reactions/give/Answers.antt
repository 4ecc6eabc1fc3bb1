use Rattle.std.proofs.{Common.{◌≡◌, ◌++◌, ◌∙◌, ap, sym, subst}, lemmas.List.append-nil}
use Rattle.mesh_rules.specs.Changes.{Answer, changed, nothing}
use Rattle.mesh_nodes.specs.Nodes.{answer_to}
use Rattle.control_channels.proofs.Preparing.{none-prepared}
use Rattle.control_channels.specs.{Adjacencies.{hop_at, packets_on}, Frames.{AllSpelled, frames_to}}
use Rattle.controller.proofs.reactions.give.Goals as goal

pub returns-then-is_idle-clause-node : goal.returns-then-is_idle-clause-node
returns-then-is_idle-clause-node c =
    let n = c.args.node.now in
    let idle : answer_to n c.args.input.now ≡ nothing = c.is_idle.ensures c.if-is_idle.true in
    sym (ap (λ (a : Answer). record { place = n.place; state = changed n.state a }) idle)

pub returns-then-is_idle-clause-hops : goal.returns-then-is_idle-clause-hops
returns-then-is_idle-clause-hops c =
    none-prepared (answer_to c.args.node.now c.args.input.now).sent c.args.adjacencies.now
    (ap (λ (a : Answer). a.sent) (c.is_idle.ensures c.if-is_idle.true)) c.requires.ready.rest

pub returns-then-is_idle-clause-frames : goal.returns-then-is_idle-clause-frames
returns-then-is_idle-clause-frames c =
    let n = c.args.node.now in
    sym (ap (λ (a : Answer). c.args.frames.now.items ++
    frames_to n.place.id (packets_on (hop_at c.args.adjacencies.now) a.sent))
    (c.is_idle.ensures c.if-is_idle.true) ∙ append-nil c.args.frames.now.items)

pub returns-then-is_idle-clause-spelled : goal.returns-then-is_idle-clause-spelled
returns-then-is_idle-clause-spelled c =
    subst (λ (a : Answer). AllSpelled c.args.node.now.place.id
    (packets_on (hop_at c.args.adjacencies.now) a.sent))
    (sym (c.is_idle.ensures c.if-is_idle.true)) tt

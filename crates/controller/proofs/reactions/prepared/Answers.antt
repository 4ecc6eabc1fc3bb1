use Rattle.std.proofs.Common.{◌∙◌, ap}
use Rattle.mesh_rules.specs.Changes.{Answer}
use Rattle.mesh_nodes.specs.Nodes.{answer_to}
use Rattle.control_channels.proofs.{Preparing.{answer-can_go, answer-framed, answer-prepared}, Spelled.answer-spelled}
use Rattle.controller.proofs.reactions.prepared.Goals as goal

pub prepare_all-requires : goal.prepare_all-requires
prepare_all-requires c =
    answer-can_go c.args.node.now.place c.args.adjacencies.now c.in_ok-change.change.sent c.into_vec.result.items
    c.requires.ready
    c.in_ok-change.ensures.near (c.in_ok-change.ensures.written c.requires.input) c.in_ok-change.ensures.few
    (c.into_vec.ensures ∙ c.take_sent-sent.ensures.sent)

pub returns-clause-hops : goal.returns-clause-hops
returns-clause-hops c =
    answer-prepared c.args.adjacencies.now c.prepare_all.new.adjacencies
    (answer_to c.args.node.now c.args.input.now).sent
    c.into_vec.result.items c.requires.ready.rest
    (c.into_vec.ensures ∙ c.take_sent-sent.ensures.sent ∙
    ap (λ (a : Answer). a.sent) c.in_ok-change.ensures.answer)
    c.in_ok-prepare_all.ensures.hops

pub returns-clause-frames : goal.returns-clause-frames
returns-clause-frames c =
    answer-framed c.id.result c.args.node.now.place.id c.args.adjacencies.now
    (answer_to c.args.node.now c.args.input.now).sent
    c.into_vec.result.items c.args.frames.now.items c.prepare_all.new.frames.items c.requires.ready.rest
    (c.into_vec.ensures ∙ c.take_sent-sent.ensures.sent ∙
    ap (λ (a : Answer). a.sent) c.in_ok-change.ensures.answer)
    c.id.ensures c.in_ok-prepare_all.ensures.frames

pub returns-clause-spelled : goal.returns-clause-spelled
returns-clause-spelled c =
    answer-spelled c.id.result c.args.node.now.place.id c.args.adjacencies.now
    (answer_to c.args.node.now c.args.input.now).sent
    c.into_vec.result.items c.requires.ready.rest
    (c.into_vec.ensures ∙ c.take_sent-sent.ensures.sent ∙
    ap (λ (a : Answer). a.sent) c.in_ok-change.ensures.answer)
    c.id.ensures c.in_ok-prepare_all.ensures.spelled

use Rattle.std.proofs.Common.{◌≡◌, ◌++◌, [], ◌∷◌, OnOk, subst, sym}
use Rattle.std.specs.Prelude.{Some}
use Rattle.hop_reliable.specs.Hop.{ack_of_id, answers_to}
use Rattle.control_channels.specs.{Adjacencies.sendings_to, Frames.{AllSpelled, frames_to}}
use Rattle.control_channels.proofs.acks.acknowledge.Goals as goal

pub returns-in-Some-clause-frames : goal.returns-in-Some-clause-frames
returns-in-Some-clause-frames c =
    let answers : ack_of_id (Some c.in-Some.id) ∷ [] ≡ answers_to c.args.heard c.args.p.now = sym c.in-Some.ensures in
    subst (λ qs. OnOk c.frame_ack.result (c.frame_ack.new.frames.items
    ≡ c.args.frames.now.items ++ frames_to c.args.me (sendings_to c.args.to qs))) answers c.frame_ack.ensures.frames

pub returns-in-Some-clause-spelled : goal.returns-in-Some-clause-spelled
returns-in-Some-clause-spelled c =
    let answers : ack_of_id (Some c.in-Some.id) ∷ [] ≡ answers_to c.args.heard c.args.p.now = sym c.in-Some.ensures in
    subst (λ qs. OnOk c.frame_ack.result (AllSpelled c.args.me (sendings_to c.args.to qs))) answers
    c.frame_ack.ensures.spelled

-- Each frame that goes out spells its packet.
use Rattle.std.proofs.{Common.{◌≡◌, ◌+◌, ℕ, List, ◌∷◌, ◌++◌, map, sym, subst}, ByRecursion.All-append}
use Rattle.std.specs.Prelude.{Option, None}
use Rattle.ason_base.specs.{declared.ids.NodeId.NodeId, declared.messages.Msg.Msg, declared.tables.Out.Out}
use Rattle.hop_reliable.specs.Hop.{HopState, numbered}
use Rattle.mesh_nodes.specs.Nodes.{NodeView}
use Rattle.flood.specs.{declared.frames.Content.Content, declared.frames.Content.TheVariants.Message, Frames.{IsFrame, frame_bytes}}
use Rattle.control_channels.specs.{declared.adjacencies.Adjacency.Adjacency, declared.frames.Frame.Frame, Adjacencies.{hop_at, next_at, packets_on, rested, sent_one}, Answers.body_answer, Frames.{AllSpelled, Sending, sent_frame}}
use Rattle.control_channels.proofs.Preparing.{next-hops}

pub frame-spelled : (me to : NodeId) (f : Frame) (c : Content) → f ≡ sent_frame me to c → IsFrame f.bytes c →
    IsFrame (frame_bytes me c) c
frame-spelled me to f c is spelled = subst (λ (g : Frame). IsFrame g.bytes c) is spelled

pub both-spelled : (me : NodeId) (xs ys : List Sending) → AllSpelled me xs → AllSpelled me ys → AllSpelled me (xs ++ ys)
both-spelled me xs ys = All-append (λ (s : Sending). IsFrame (frame_bytes me s.content) s.content) xs ys

-- one message less is left to send
pub message-spelled : (me : NodeId) (hops after start : ℕ → HopState) (o : Out) (left all now : List Out) (f : Frame) →
    now ≡ o ∷ left → after ≡ sent_one hops o →
    f ≡ sent_frame me o.to (Message (numbered ((hops o.to.0).sent + 1) o.msg)) →
    IsFrame f.bytes (Message (numbered ((hops o.to.0).sent + 1) o.msg)) →
    (AllSpelled me (packets_on hops now) → AllSpelled me (packets_on start all)) →
    AllSpelled me (packets_on after left) → AllSpelled me (packets_on start all)
message-spelled me hops after start o left all now f items e is spelled whole rest =
    whole (subst (λ os. AllSpelled me (packets_on hops os)) (sym items) (
      frame-spelled me o.to f (Message (numbered ((hops o.to.0).sent + 1) o.msg)) is spelled,
      subst (λ hs. AllSpelled me (packets_on hs left)) e rest,
    ))

-- the messages of an answer
pub answer-spelled : (me id : NodeId) (before : List Adjacency) (sent outs : List Out) → map rested before ≡ before →
    outs ≡ sent → me ≡ id → AllSpelled me (packets_on (next_at before) outs) →
    AllSpelled id (packets_on (hop_at before) sent)
answer-spelled me id before sent outs rest e same spelled =
    subst (λ n. AllSpelled n (packets_on (hop_at before) sent)) same
    (subst (λ os. AllSpelled me (packets_on (hop_at before) os)) e
    (subst (λ hops. AllSpelled me (packets_on hops outs)) (next-hops before rest) spelled))

-- nothing is handed up
pub nothing-spelled : (me : NodeId) (n : NodeView) (u : NodeId) (body : Option Msg) (hops : ℕ → HopState) →
    body ≡ None → AllSpelled me (packets_on hops (body_answer n u body).sent)
nothing-spelled me n u body hops none =
    subst (λ b. AllSpelled me (packets_on hops (body_answer n u b).sent)) (sym none) tt

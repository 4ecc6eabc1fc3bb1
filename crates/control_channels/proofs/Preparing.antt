-- A node's answer is prepared.
use Rattle.std.proofs.Common.{◌≡◌, ◌≤◌, ◌++◌, ℕ, List, [], length, map, sym, ap, ◌∙◌, subst}
use Rattle.std.specs.Prelude.{Option, None}
use Rattle.ason_base.specs.{declared.messages.Msg.Msg, declared.ids.NodeId.NodeId, declared.tables.Out.Out}
use Rattle.mesh_nodes.specs.{Nodes.NodeView, Sent.{AllToNeighbours, AllWritable}}
use Rattle.control_channels.specs.{Answers.body_answer, declared.adjacencies.Adjacency.Adjacency, declared.frames.Frame.Frame, Adjacencies.{AllCanGo, ArePrepared, hop_at, next_at, packets_on, reaches, rested, sent_on}, Frames.frames_to, ReadyControllers.IsReady}
use Rattle.mesh_rules.specs.LocalNodes.{LocalNode}
use Rattle.control_channels.proofs.{Later.all-go, Resting.next-is}

pub next-hops : (xs : List Adjacency) → map rested xs ≡ xs → next_at xs ≡ hop_at xs
next-hops xs rest = λ i d. next-is xs rest d i

pub answer-can_go : (p : LocalNode) (xs : List Adjacency) (sent outs : List Out) → IsReady p xs →
    AllToNeighbours p sent → AllWritable sent →
    length sent ≤ 65536 → outs ≡ sent → AllCanGo (reaches xs) (next_at xs) outs
answer-can_go p xs sent outs ready near can few e =
    subst (AllCanGo (reaches xs) (next_at xs)) (sym e)
    (subst (λ hops. AllCanGo (reaches xs) hops sent) (sym (next-hops xs ready.rest))
    (all-go p (reaches xs) ready.reached sent (hop_at xs) 65536 few ready.left near can))

pub answer-prepared : (before after : List Adjacency) (sent outs : List Out) → map rested before ≡ before →
    outs ≡ sent →
    ((d : ℕ) → next_at after d ≡ sent_on (next_at before) outs d) → ArePrepared before sent after
answer-prepared before after sent outs rest e are d =
    are d ∙ ap (λ hops. sent_on hops outs d) (next-hops before rest) ∙ ap (λ os. sent_on (hop_at before) os d) e

pub answer-framed : (me id : NodeId) (before : List Adjacency) (sent outs : List Out) (first last : List Frame) →
    map rested before ≡ before → outs ≡ sent → me ≡ id →
    last ≡ first ++ frames_to me (packets_on (next_at before) outs) → last ≡ first ++
    frames_to id (packets_on (hop_at before) sent)
answer-framed me id before sent outs first last rest e same are =
    are ∙ ap (λ hops. first ++ frames_to me (packets_on hops outs)) (next-hops before rest)
    ∙ ap (λ os. first ++ frames_to me (packets_on (hop_at before) os)) e
    ∙ ap (λ n. first ++ frames_to n (packets_on (hop_at before) sent)) same

-- nothing is sent
pub none-prepared : (sent : List Out) (xs : List Adjacency) → sent ≡ [] → map rested xs ≡ xs → ArePrepared xs sent xs
none-prepared sent xs none rest = subst (λ (os : List Out). ArePrepared xs os xs) (sym none) (λ d. next-is xs rest d)

-- nothing is handed up
pub nothing-prepared : (n : NodeView) (u : NodeId) (body : Option Msg) (xs : List Adjacency) → body ≡ None →
    map rested xs ≡ xs →
    ArePrepared xs (body_answer n u body).sent xs
nothing-prepared n u body xs none rest =
    none-prepared (body_answer n u body).sent xs (ap (λ b. (body_answer n u b).sent) none) rest

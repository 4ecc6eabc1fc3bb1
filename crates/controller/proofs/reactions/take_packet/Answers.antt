use Rattle.std.proofs.Common.{◌≡◌, map, ◌+◌, ◌<◌, ◌^◌, ◌++◌, cond, nat_eq, sym, ap, ◌∙◌, subst}
use Rattle.ason_base.specs.declared.ids.NodeId.{NodeId}
use Rattle.hop_reliable.specs.Hop.{HopState}
use Rattle.control_channels.specs.{Adjacencies.{prepared_at, rested, taken_by}, Controllers.{acks_to, handed_body}, Frames.{AllSpelled, frames_to}}
use Rattle.control_channels.proofs.Resting.{same-hop, same-reach}
use Rattle.controller.proofs.{Taking.{IsPacketTaken, took-becomes, took-frames, took-spelled}, reactions.take_packet.Goals.After-commit_handed}
use Rattle.controller.proofs.reactions.take_packet.Goals as goal

pub take-requires-clause-reached : goal.take-requires-clause-reached
take-requires-clause-reached c =
    same-reach c.hand_up.new.adjacencies c.args.adjacencies.now c.in_ok-hand_up.ensures.rest c.args.from.0 ∙
    c.requires.reached

pub take-requires-clause-next : goal.take-requires-clause-next
take-requires-clause-next c = λ e.
    subst (λ (h : HopState). h.handed_up + 1 < 2 ^ 32)
    (sym (same-hop c.hand_up.new.adjacencies c.args.adjacencies.now c.in_ok-hand_up.ensures.rest c.args.from.0))
    (c.hears-heard.ensures.next e)

-- the parts of the packet's taking together
taken : (c : After-commit_handed) → IsPacketTaken c.args.node.now c.args.adjacencies.now c.hand_up.new.adjacencies
    c.take.new.adjacencies c.commit_handed.new.adjacencies c.args.from c.hears-heard.result c.args.packet
    c.handed_up-body.result
taken c =
    let mid = c.hand_up.new.adjacencies in
    record {
      heard = c.hears-heard.ensures.heard;
      handed =
          c.handed_up-body.ensures.handed
          ∙ ap (λ parts. handed_body c.hears-heard.result parts.1) c.into_parts-acks.ensures;
      are = c.in_ok-hand_up.ensures.hops;
      rest = c.in_ok-hand_up.ensures.rest;
      takes = λ d. c.take.ensures.hops d
          ∙ ap (λ acks. cond (nat_eq d c.args.from.0) (taken_by c.hears-heard.result acks (prepared_at mid d))
          (prepared_at mid d)) (c.items.ensures ∙ ap (λ parts. parts.0) c.into_parts-acks.ensures);
      peers = c.take.ensures.peers;
      is = c.commit_handed.ensures;
    }

pub returns-clause-becomes : goal.returns-clause-becomes
returns-clause-becomes c =
    took-becomes c.args.node.now c.hand_up.new.node _ _ _ _ _ _ _ _
    (taken (goal.at.returns-clause-becomes c).After-commit_handed) c.in_ok-hand_up.ensures.place
    c.in_ok-hand_up.ensures.node

pub returns-clause-frames : goal.returns-clause-frames
returns-clause-frames c =
    took-frames c.args.node.now c.hand_up.new.node _ _ _ _ _ _ _ _
    (taken (goal.at.returns-clause-frames c).After-commit_handed)
    c.args.frames.now.items c.acknowledge.new.frames.items c.hand_up.new.frames.items
    (c.in_ok-acknowledge.ensures.frames ∙ ap (λ (n : NodeId). c.args.frames.now.items ++
    frames_to n (acks_to c.args.from c.hears-heard.result c.args.packet)) c.id.ensures)
    c.in_ok-hand_up.ensures.frames

pub returns-clause-spelled : goal.returns-clause-spelled
returns-clause-spelled c =
    took-spelled c.args.node.now c.hand_up.new.node _ _ _ _ _ _ _ _
    (taken (goal.at.returns-clause-spelled c).After-commit_handed)
    (subst (λ (n : NodeId). AllSpelled n (acks_to c.args.from c.hears-heard.result c.args.packet)) c.id.ensures
    c.in_ok-acknowledge.ensures.spelled)
    c.in_ok-hand_up.ensures.spelled

pub commit_handed-requires : goal.commit_handed-requires
commit_handed-requires c = λ other.
    c.take.ensures.rest
    (subst (λ xs. map rested xs ≡ xs) (sym (c.in_ok-hand_up.ensures.none (c.handed_up-body.ensures.none other)))
    c.requires.ready.rest)

use Rattle.std.proofs.{Common.{◌≡◌, ◌++◌, true, refl}, ByRecursion.All-append}
use Rattle.std.specs.List.{flat_map}
use Rattle.flood.specs.State.{sent_at_tick}
use Rattle.hop_reliable.specs.Hop.{ticked}
use Rattle.mesh_nodes.specs.LocalNodes.{is_neighbour}
use Rattle.mesh_rules.specs.Waits.{on_tick}
use Rattle.control_channels.specs.{Adjacencies.{again_to, hop_at}, Controllers.floods_to, Frames.Sending}
use Rattle.control_channels.proofs.{Counting.{made-few, older-waits}, NearFrames.{again-near, made-to_neighbours}, Keeping.{made-kept, older-again, tick-sent}}
use Rattle.controller.proofs.{AtRest.{rested-made, told-ticked}, FloodCounts.{first-few, floods-near}, FloodKept.fits-ticked, Taking.ticked-made}
use Rattle.controller.proofs.reactions.tick.Goals as goal

pub returns-then-is_at_rest-clause-made : goal.returns-then-is_at_rest-clause-made
returns-then-is_at_rest-clause-made c =
    rested-made c.args.node.now c.args.adjacencies.now c.args.flood.now c.list-frames.result.items
    (c.is_at_rest.ensures.node c.if-is_at_rest.true) (c.is_at_rest.ensures.hops c.if-is_at_rest.true)
    (c.is_at_rest.ensures.rows c.if-is_at_rest.true) c.requires.ready.rest c.list-frames.ensures

pub returns-then-is_at_rest-clause-flood : goal.returns-then-is_at_rest-clause-flood
returns-then-is_at_rest-clause-flood c =
    told-ticked c.args.flood.now (c.is_at_rest.ensures.rows c.if-is_at_rest.true)

pub frame_floods_due-requires : goal.frame_floods_due-requires
frame_floods_due-requires c = c.requires.fits.due

pub returns-clause-made : goal.returns-clause-made
returns-clause-made c =
    ticked-made c.args.node.now c.give.new.node c.id-me.result c.args.adjacencies.now c.give.new.adjacencies
    c.age_all.new.adjacencies c.commit_all.new.adjacencies c.args.flood.now
    c.list-frames.result.items c.frame_due.new.frames.items c.frame_floods_due.new.frames.items c.give.new.frames.items
    c.in_ok-give.ensures.node c.in_ok-give.ensures.hops c.in_ok-give.ensures.rest
    c.age_all.ensures c.commit_all.ensures c.list-frames.ensures c.id-me.ensures c.in_ok-frame_due.ensures.frames
    c.in_ok-frame_floods_due.ensures.frames c.in_ok-give.ensures.frames
    c.in_ok-frame_due.ensures.spelled c.in_ok-frame_floods_due.ensures.spelled c.in_ok-give.ensures.spelled

pub returns-clause-kept : goal.returns-clause-kept
returns-clause-kept c = λ k kept.
    made-kept c.args.node.now c.give.new.node c.args.adjacencies.now c.commit_all.new.adjacencies k
    (λ d. ticked (hop_at c.args.adjacencies.now d))
    (on_tick c.args.node.now.place c.args.node.now.state)
    (flat_map again_to c.args.adjacencies.now ++ floods_to (sent_at_tick c.args.flood.now)) c.give.new.frames.items
    kept (λ d. refl)
    (λ d. older-again (hop_at c.args.adjacencies.now d).unacked (kept.again d))
    (λ d. older-waits (hop_at c.args.adjacencies.now d).unacked (hop_at c.args.adjacencies.now d).sent
    (kept.waiting d)) (tick-sent c.args.node.now.place c.args.node.now.state c.fits.ensures.state c.fits.ensures.few)
    (returns-clause-made c)

pub returns-clause-fits : goal.returns-clause-fits
returns-clause-fits c =
    fits-ticked c.args.node.now c.give.new.node c.args.flood.now c.age.new.self c.requires.fits
    c.in_ok-give.ensures.node c.age.ensures

pub returns-clause-near : goal.returns-clause-near
returns-clause-near c =
    made-to_neighbours _ _ _ c.commit_all.new.adjacencies (λ d. ticked (hop_at c.args.adjacencies.now d))
    (on_tick c.args.node.now.place c.args.node.now.state)
    (flat_map again_to c.args.adjacencies.now ++ floods_to (sent_at_tick c.args.flood.now)) c.give.new.frames.items
    (All-append (λ (s : Sending). is_neighbour c.args.node.now.place s.to ≡ true)
    (flat_map again_to c.args.adjacencies.now) (floods_to (sent_at_tick c.args.flood.now))
    (again-near c.args.node.now.place c.args.adjacencies.now c.requires.ready.near)
    (floods-near c.args.node.now.place c.args.flood.now c.requires.fits.neighbours))
    (tick-sent c.args.node.now.place c.args.node.now.state c.fits.ensures.state c.fits.ensures.few)
    (returns-clause-made c)

pub returns-clause-few : goal.returns-clause-few
returns-clause-few c =
    made-few _ _ _ c.commit_all.new.adjacencies (λ d. ticked (hop_at c.args.adjacencies.now d))
    (on_tick c.args.node.now.place c.args.node.now.state)
    (flat_map again_to c.args.adjacencies.now ++ floods_to (sent_at_tick c.args.flood.now)) c.give.new.frames.items
    (first-few c.args.node.now.place c.args.adjacencies.now c.args.flood.now c.requires.ready.waiting
    c.requires.ready.narrow c.requires.fits.neighbours c.counts.ensures)
    (tick-sent c.args.node.now.place c.args.node.now.state c.fits.ensures.state c.fits.ensures.few)
    (returns-clause-made c)

use Rattle.std.proofs.Common.{◌∙◌, sym}
use Rattle.ason_base.specs.Network.{row_of}
use Rattle.control_channels.proofs.Beginning.{can-declare, declared-to}
use Rattle.control_channels.proofs.floods.declare_own.Goals as goal

pub declare-requires-clause-own : goal.declare-requires-clause-own
declare-requires-clause-own c =
    let link = c.link-item.result in
    (declared-to _ c.loop-link.flood (row_of link) c.in_ok-row.row c.loop-link.invariant c.in_ok-row.ensures
    (can-declare c.every_start.ensures.declared c.args.n c.args.links.now c.requires.links c.loop-link.link-index link
    c.loop-link-test.true c.link-item.is (sym c.touches.ensures ∙ c.if-touches.true))).own

pub declare-requires-clause-unknown : goal.declare-requires-clause-unknown
declare-requires-clause-unknown c =
    let link = c.link-item.result in
    (declared-to _ c.loop-link.flood (row_of link) c.in_ok-row.row c.loop-link.invariant c.in_ok-row.ensures
    (can-declare c.every_start.ensures.declared c.args.n c.args.links.now c.requires.links c.loop-link.link-index link
    c.loop-link-test.true c.link-item.is (sym c.touches.ensures ∙ c.if-touches.true))).unknown

pub declare-requires-clause-room : goal.declare-requires-clause-room
declare-requires-clause-room c =
    let link = c.link-item.result in
    (declared-to _ c.loop-link.flood (row_of link) c.in_ok-row.row c.loop-link.invariant c.in_ok-row.ensures
    (can-declare c.every_start.ensures.declared c.args.n c.args.links.now c.requires.links c.loop-link.link-index link
    c.loop-link-test.true c.link-item.is (sym c.touches.ensures ∙ c.if-touches.true))).room

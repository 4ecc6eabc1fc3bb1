use Rattle.std.proofs.Common.{◌≡◌, map, ◌+◌, ◌<◌, ◌^◌, sym, ap, ◌∙◌, subst}
use Rattle.std.specs.Prelude.{position, Some, None}
use Rattle.hop_reliable.specs.Hop.{PreparedHop}
use Rattle.control_channels.specs.Adjacencies.{is_adjacency_to, peer_numbers, rested, taken_by}
use Rattle.control_channels.proofs.Changing.{changed_is, hop_there, none_there, peers-changed, prepared_changed, taken-rests}
use Rattle.control_channels.proofs.adjacencies.take.Goals as goal

pub take_at-requires-clause-next : goal.take_at-requires-clause-next
take_at-requires-clause-next c = λ a e is.
    let before = c.args.adjacencies.now in
    let at : position (is_adjacency_to c.args.from.0) before ≡ Some c.in-Some.place = sym c.in-Some.ensures in
    subst (λ (h : PreparedHop). h.state.handed_up + 1 < 2 ^ 32)
    (sym (hop_there c.args.from.0 before c.in-Some.place at a e)) (c.requires.next is)

pub returns-in-None-clause-hops : goal.returns-in-None-clause-hops
returns-in-None-clause-hops c =
    let before = c.args.adjacencies.now in
    let nowhere : position (is_adjacency_to c.args.from.0) before ≡ None = sym c.in-None.ensures in
    absurd (none_there c.args.from.0 before nowhere c.requires.reached)

pub returns-in-Some-clause-hops : goal.returns-in-Some-clause-hops
returns-in-Some-clause-hops c = λ d.
    let before = c.args.adjacencies.now in
    let at : position (is_adjacency_to c.args.from.0) before ≡ Some c.in-Some.place = sym c.in-Some.ensures in
    prepared_changed c.args.from.0 (taken_by c.args.heard c.args.acks.now) before c.take_at.new.adjacencies
    c.in-Some.place at c.take_at.ensures c.requires.reached d

pub returns-in-Some-clause-peers : goal.returns-in-Some-clause-peers
returns-in-Some-clause-peers c =
    let before = c.args.adjacencies.now in
    let at : position (is_adjacency_to c.args.from.0) before ≡ Some c.in-Some.place = sym c.in-Some.ensures in
    ap peer_numbers (changed_is c.args.from.0 (taken_by c.args.heard c.args.acks.now) before
    c.take_at.new.adjacencies c.in-Some.place at c.take_at.ensures) ∙
    peers-changed c.args.from.0 (taken_by c.args.heard c.args.acks.now) before

pub returns-in-Some-clause-rest : goal.returns-in-Some-clause-rest
returns-in-Some-clause-rest c = λ rest.
    let before = c.args.adjacencies.now in
    let at : position (is_adjacency_to c.args.from.0) before ≡ Some c.in-Some.place = sym c.in-Some.ensures in
    subst (λ xs. map rested xs ≡ xs)
    (sym (changed_is c.args.from.0 (taken_by c.args.heard c.args.acks.now) before c.take_at.new.adjacencies
    c.in-Some.place at c.take_at.ensures))
    (taken-rests c.args.from.0 c.args.heard c.args.acks.now before rest)

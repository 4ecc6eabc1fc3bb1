use Rattle.std.proofs.{Common.{map, ap, ◌∙◌}, lemmas.List.Filters.dedup_is, lemmas.Map.Keys.IsStrictlyIncreasing-dedup}
use Rattle.std.specs.Prelude.{filter, nat_lt}
use Rattle.ason_base.proofs.RisingNumbers.{numbers_in_order, sorted_same}
use Rattle.ason_base.specs.{declared.ids.NodeId.NodeId, InOrder.in_order, Network.touches}
use Rattle.control_channels.proofs.Beginning.{numbers-are}
use Rattle.control_channels.proofs.peers.neighbours.Goals as goal

pub returns : goal.returns
returns c =
    let is = dedup_is _ _ _ c.dedup.ensures.filtered in
    let before = c.in_ok-numbers.numbers.items in
    numbers_in_order before c.dedup.new.self.items
    (rw is (IsStrictlyIncreasing-dedup _ c.sort_unstable.ensures.sorted))
    (λ n. rw is (sorted_same before c.sort_unstable.new.self.items n c.sort_unstable.ensures.permutation))
    ∙ ap (λ xs. in_order nat_lt xs) (c.in_ok-numbers.ensures
    ∙ ap (map (λ (m : NodeId). m.0)) (c.deref.ensures.value ∙ c.in_ok-ends.ensures)
    ∙ numbers-are c.args.n (filter (touches c.args.n) c.args.links.now))

use Rattle.std.proofs.Common.{ap, sym, ◌∙◌, ◌++◌, refl, List, ℕ}
use Rattle.te_tlv.proofs.Lengths.{all_pushed, srlgs_pushed}
use Rattle.te_tlv.proofs.writing.push_srlgs.Goals as goal

pub returns : goal.returns
returns c =
    srlgs_pushed c.args.out.now.items c.extend_from_slice.new.self.items c.loop-n.out.items c.args.srlgs.now _
    (sym c.is_empty.ensures ∙ c.if-is_empty.false) refl
    (c.in_ok-extend_from_slice.ensures.items ∙ ap (λ (h : List ℕ). c.args.out.now.items ++ h) c.srlgs_header.ensures)
    (all_pushed c.extend_from_slice.new.self.items c.loop-n.out.items c.args.srlgs.now c.loop-n.n-index
    c.loop-n.auto.n-index-end c.loop-n-test.false c.loop-n.invariant)

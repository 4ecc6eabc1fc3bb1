use Rattle.std.proofs.Common.{ap, sym, ◌∙◌, ◌+◌, ◌++◌, ℕ, length, List}
use Rattle.ason_base.proofs.Results.{on_ok}
use Rattle.te_tlv.specs.Written.{fixed_body, srlgs_tlv}
use Rattle.te_tlv.proofs.Lengths.{length-body, tlv_pushed}
use Rattle.te_tlv.proofs.writing.push_row.Goals as goal

pub returns : goal.returns
returns c =
    let row = c.args.row.now in
    let tail = ap srlgs_tlv c.items-srlgs.ensures in
    on_ok c.push_srlgs.result _ _ (λ pushed.
    tlv_pushed c.args.out.now.items c.extend_from_slice.new.self.items c.push_srlgs.new.out.items
    (fixed_body c.args.origin row) (srlgs_tlv row.srlgs) _
    (ap (λ (n : ℕ). 36 + n) (c.srlgs_len-len.ensures.len ∙ ap length tail) ∙ sym (length-body c.args.origin row))
    (c.in_ok-extend_from_slice.ensures.items ∙ ap (λ (h : List ℕ). c.args.out.now.items ++ h) c.fixed_part.ensures)
    (pushed ∙ ap (λ (t : List ℕ). c.extend_from_slice.new.self.items ++ t) tail)) c.push_srlgs.ensures

use Rattle.std.proofs.Common.{List, ℕ, ◌++◌, ◌∙◌, ap}
use Rattle.ason_base.proofs.Results.{on_ok}
use Rattle.flood.proofs.Envelopes.{row_pushed}
use Rattle.flood.proofs.messages.push_row.Goals as goal

pub returns : goal.returns
returns c = on_ok c.append_row.result _ _ (λ pushed.
    row_pushed c.args.out.now.items c.extend_from_slice.new.self.items c.extend_from_slice-2.new.self.items
    c.append_row.new.out.items c.args.number c.args.origin c.args.row.now
    (c.in_ok-extend_from_slice.ensures.items ∙ ap (λ (h : List ℕ). c.args.out.now.items ++ h) c.head.ensures)
    (c.in_ok-extend_from_slice-2.ensures.items
    ∙ ap (λ (h : List ℕ). c.extend_from_slice.new.self.items ++ h) c.to_be_bytes.ensures) pushed)
    c.append_row.ensures.written

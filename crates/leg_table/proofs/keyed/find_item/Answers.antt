use Rattle.std.proofs.Common.{sym, ◌∙◌}
use Rattle.ason_base.proofs.Finding.{found-nowhere}
use Rattle.leg_table.specs.Keyed.{has_key}
use Rattle.leg_table.proofs.Halved.{find-place}
use Rattle.leg_table.proofs.keyed.find_item.Goals as goal

pub returns-in-None : goal.returns-in-None
returns-in-None g c =
    sym (found-nowhere (has_key g.T.Keyed.same g.T.Keyed.key_of c.args.key) c.args.items.now (sym c.in-None.ensures))

pub returns-in-Some : goal.returns-in-Some
returns-in-Some g c =
    c.item_at.ensures ∙ sym (find-place (has_key g.T.Keyed.same g.T.Keyed.key_of c.args.key) c.args.items.now
    c.in-Some.place (sym c.in-Some.ensures))

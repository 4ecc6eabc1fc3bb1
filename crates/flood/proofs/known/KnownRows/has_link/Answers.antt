use Rattle.std.proofs.Common.{◌==◌, ◌∙◌, List, ℕ, ap}
use Rattle.std.specs.List.{list_any}
use Rattle.ason_base.specs.declared.network.TeRow.{TeRow}
use Rattle.flood.specs.State.{is_known}
use Rattle.flood.proofs.known.KnownRows.has_link.Goals as goal

pub returns : goal.returns
returns c =
    c.has_number.ensures
    ∙ ap (λ (ns : List ℕ). list_any (λ m. m == c.args.link.0) ns) c.deref.ensures.value
    ∙ c.self.invariant.links c.args.link.0
    ∙ ap (λ (rows : List TeRow). is_known rows c.args.link) c.self.view_is

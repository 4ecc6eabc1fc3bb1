use Rattle.std.proofs.Common.{◌≡◌, map, not, take}
use Rattle.pair_search.specs.Checks.{may_partner}
use Rattle.pair_search.proofs.partners.closed_to_partners.Given as goal

abbrev pub invariant-loop-row : goal.invariant-loop-row
invariant-loop-row l =
    l.closed.items ≡ map (λ row. not (may_partner l.search.rows l.route l.search.from l.search.to row))
    (take l.row-index l.row-items)

use Rattle.std.proofs.Common.{◌≡◌, ◌++◌, map, take}
use Rattle.survey.specs.Groups.{with_links}
use Rattle.ason_base.specs.declared.commands.Group.TheVariants.{Srlg}
use Rattle.survey.proofs.groups.push_srlgs.Given as goal

abbrev pub invariant-loop-number : goal.invariant-loop-number
invariant-loop-number l =
    l.groups.items
    ≡ l.fn.groups.items ++ map (λ n. with_links l.links (Srlg n)) (take l.number-index l.numbers)

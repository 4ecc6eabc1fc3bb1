use Rattle.std.proofs.Common.{◌≡◌, ◌++◌, map, take}
use Rattle.survey.specs.Groups.{with_links}
use Rattle.ason_base.specs.{declared.commands.Group.TheVariants.Link, declared.network.LinkSpec.LinkSpec}
use Rattle.survey.proofs.groups.push_links.Given as goal

abbrev pub invariant-loop-link : goal.invariant-loop-link
invariant-loop-link l =
    l.groups.items
    ≡ l.fn.groups.items ++ map (λ (k : LinkSpec). with_links l.links (Link k.id)) (take l.link-index l.links)

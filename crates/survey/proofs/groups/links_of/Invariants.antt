use Rattle.std.proofs.Common.{◌≡◌, take}
use Rattle.survey.specs.Groups.{links_of}
use Rattle.survey.proofs.groups.links_of.Given as goal

abbrev pub invariant-loop-link : goal.invariant-loop-link
invariant-loop-link l = l.ids.items ≡ links_of l.group (take l.link-index l.links)

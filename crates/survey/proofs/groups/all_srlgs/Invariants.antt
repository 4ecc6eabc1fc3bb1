use Rattle.std.proofs.Common.{◌≡◌, take}
use Rattle.std.specs.Prelude.{flat_map}
use Rattle.ason_base.specs.declared.network.LinkSpec.{LinkSpec}
use Rattle.survey.proofs.groups.all_srlgs.Given as goal

abbrev pub invariant-loop-link : goal.invariant-loop-link
invariant-loop-link l = l.numbers.items ≡ flat_map (λ (k : LinkSpec). k.srlgs) (take l.link-index l.links)

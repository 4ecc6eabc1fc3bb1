use Rattle.std.proofs.Common.{◌∙◌, refl}
use Rattle.flood.proofs.RisingNumbers.{sought_is}
use Rattle.flood.proofs.known.has_number.Goals as goal

pub returns : goal.returns
returns c =
    c.is_ok.ensures.value
    ∙ sought_is c.args.numbers.now c.args.numbers.now c.args.n c.binary_search.result refl c.requires
    c.binary_search.ensures.position
